-- The loop over the levels: what is left of the search at each turn. Assumes nothing.
use Prim.Native.Nat.{ℕ, zero, suc, ◌+◌, ◌^◌, ◌≤◌, ◌<◌}
use native.Mathlib.Omega.{arith}
use mathlib.Core.Bool.{Bool, cond}
use mathlib.Core.List.{List, [], ◌∷◌, ◌++◌, cons≢nil}
use mathlib.Core.Path.{◌≡◌, refl, sym, ap, ◌∙◌, subst, subst₂}
use lib.IntN.{ℤ}
use lib.ListN.{length}
use Rattle.local_search.specs.LocalSearch.{All, best, concat, next_level, levels, Levels, Found, found_in, searched}
use Rattle.local_search.specs.LocalSearch.Levels.{none, more}
use Rattle.local_search.specs.Level.{Choice, below}
use Rattle.local_search.specs.SignSearch.{children_c, Safe, searched_from, Searches}
use Rattle.local_search.proofs.All.{all_left, all_right, all_map}
use Rattle.local_search.proofs.SearchLaws.{good_levels, start_children, levels_end, searched_improves}
use Rattle.local_search.proofs.SignLaws.{Good, orders_choices, falls_choices, child_fits}

all_levels : {X : Type 0} (P : X → Type 0) (ls : List (List X)) → All P (concat ls) → All (All P) ls
unfolding concat
all_levels P [] a = tt
all_levels P (l ∷ ls) a = (all_left P l (concat ls) a, all_levels P ls (all_right P l (concat ls) a))

best_append : (b : Choice) (l r : List Choice) → best below b (l ++ r) ≡ best below (best below b l) r
unfolding best
best_append b [] r = refl
best_append b (x ∷ l) r = best_append (cond (below x b) x b) l r

pub start_safe : (change : List ℕ → ℕ → ℤ) (exists : Choice → ℕ → Bool) (fuel : ℕ) (start : Choice) → Searches change exists fuel start → Safe change start
start_safe change exists fuel start p i q =
    child_fits p.lawful p.bounded start (refl, p.start_is) i q

module _ (change : List ℕ → ℕ → ℤ) (exists : Choice → ℕ → Bool) (width fuel : ℕ) (start : Choice) where
  abbrev children : Choice → List Choice
  children = children_c change exists (length start.signs)

  -- at a level, with the best so far and the rounds made: the levels that are left lead to the search's answer
  pub record Searching (level : List Choice) (kept : Choice) (rounds : ℕ) : Type 0 where
    pub left : List (List Choice)
    pub levels_left : Levels below children width level left
    pub safe : All (All (Safe change)) left
    pub answer_is : best below kept (concat left) ≡ (searched_from change exists width fuel start).answer
    pub rounds_are : rounds + length left ≡ (searched_from change exists width fuel start).rounds
    pub few : (searched_from change exists width fuel start).rounds < 2 ^ 64

  pub searching_safe : (level : List Choice) (kept : Choice) (rounds : ℕ) → Searching level kept rounds → All (Safe change) level
  searching_safe level kept rounds p = go level p.left p.levels_left p.safe
    where
      go : (l : List Choice) (ls : List (List Choice)) → Levels below children width l ls → All (All (Safe change)) ls → All (Safe change) l
      go l ls none a = tt
      go l ls (more r) a = a.0

  pub searching_end : (level : List Choice) (kept : Choice) (rounds : ℕ) → level ≡ [] → Searching level kept rounds
      → (kept ≡ (searched_from change exists width fuel start).answer) × (rounds ≡ (searched_from change exists width fuel start).rounds)
  unfolding concat best
  searching_end level kept rounds e p = go level p.left p.levels_left e p.answer_is p.rounds_are
    where
      go : (l : List Choice) (ls : List (List Choice)) → Levels below children width l ls → l ≡ []
          → best below kept (concat ls) ≡ (searched_from change exists width fuel start).answer → rounds + length ls ≡ (searched_from change exists width fuel start).rounds
          → (kept ≡ (searched_from change exists width fuel start).answer) × (rounds ≡ (searched_from change exists width fuel start).rounds)
      go l ls none n a r = (a, omega arith)
      go l ls (more q) n a r = absurd (cons≢nil n)

  pub searching_turn : (level : List Choice) (kept : Choice) (rounds : ℕ) → 0 < length level → Searching level kept rounds
      → Searching (next_level below children width level) (best below kept level) (rounds + 1)
  unfolding concat
  searching_turn level kept rounds h p = go level p.left p.levels_left h p.safe p.answer_is p.rounds_are
    where
      go : (l : List Choice) (ls : List (List Choice)) → Levels below children width l ls → 0 < length l → All (All (Safe change)) ls
          → best below kept (concat ls) ≡ (searched_from change exists width fuel start).answer → rounds + length ls ≡ (searched_from change exists width fuel start).rounds
          → Searching (next_level below children width l) (best below kept l) (rounds + 1)
      go l ls none q s a r = absurd (omega arith)
      go l ls (more {x} {xs} {ls = rest} v) q s a r = record {
        left = rest;
        levels_left = v;
        safe = s.1;
        answer_is = sym (best_append kept (x ∷ xs) (concat rest)) ∙ a;
        rounds_are = omega arith;
        few = p.few;
      }

  pub searching_more : (level : List Choice) (kept : Choice) (rounds : ℕ) → 0 < length level → Searching level kept rounds → rounds < (searched_from change exists width fuel start).rounds
  searching_more level kept rounds h p = go level p.left p.levels_left h p.rounds_are
    where
      go : (l : List Choice) (ls : List (List Choice)) → Levels below children width l ls → 0 < length l → rounds + length ls ≡ (searched_from change exists width fuel start).rounds
          → rounds < (searched_from change exists width fuel start).rounds
      go l ls none q r = absurd (omega arith)
      go l ls (more {x} {xs} {ls = rest} v) q r = omega arith

  found_is : (w : ℕ) → 1 ≤ w → searched below children w fuel start ≡ found_in below start (levels below children w fuel (children start))
  unfolding searched
  found_is zero h = absurd (omega arith)
  found_is (suc w) h = refl

  pub searching_start : 1 ≤ width → Searches change exists fuel start → Searching (children start) start 0
  unfolding found_in
  searching_start w p =
      let G : Choice → Type 0 = Good p.lawful in
      let up : Choice → ℕ = λ c. p.height c.signs in
      let ord = orders_choices p.lawful in
      let fal = falls_choices p.lawful exists p.improving in
      let g : G start = (refl, p.start_is) in
      let ls : List (List Choice) = levels below children width fuel (children start) in
      let lv : Levels below children width (children start) ls = levels_end below children G up ord fal width fuel start p.enough g in
      let goods : All G (concat ls) = good_levels below children G up ord fal width 4 (up start) (children start) ls (start_children below children G up ord fal start g) lv in
      let found = found_is width w in
      record {
        left = ls;
        levels_left = lv;
        safe = all_levels (Safe change) ls
            (all_map G (Safe change) (λ c h i q. child_fits p.lawful p.bounded c h i (omega arith)) (concat ls) goods);
        answer_is = sym (ap (λ (f : Found Choice). f.answer) found);
        rounds_are = omega (arith, ap (λ (f : Found Choice). f.rounds) found);
        few = omega (arith, (searched_improves below children G up ord fal width fuel start w p.enough g).falls_by_rounds);
      }

  -- a turn of the loop, on what the level and the best so far then are
  pub searching_next : (level level' : List Choice) (kept kept' : Choice) (rounds : ℕ) → 0 < length level
      → level' ≡ next_level below children width level → kept' ≡ best below kept level → Searching level kept rounds → Searching level' kept' (rounds + 1)
  searching_next level level' kept kept' rounds h e f p =
      subst₂ (λ (l : List Choice) (k : Choice). Searching l k (rounds + 1)) (sym e) (sym f) (searching_turn level kept rounds h p)

  pub searching_first : (level : List Choice) → level ≡ children start → 1 ≤ width → Searches change exists fuel start → Searching level start 0
  searching_first level e w p = subst (λ (l : List Choice). Searching l start 0) (sym e) (searching_start w p)
