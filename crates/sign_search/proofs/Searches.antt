-- The table's changes are those of its objective, so the laws of the search's loop hold. Assumes nothing.
use Prim.Native.Nat.{ℕ, ◌<◌}
use mathlib.Core.Bool.{Bool, true, false, cond}
use mathlib.Core.List.{List}
use mathlib.Core.Path.{◌≡◌, refl, sym, ap, ap₂, ◌∙◌, subst}
use lib.IntN.{ℤ}
use lib.ListN.{length}
use Rattle.laws.proofs.Any.{cond_self}
use Rattle.std.specs.List.{AllZip}
use Rattle.local_search.specs.Level.{Choice, flip_sign}
use Rattle.local_search.specs.LocalSearch.{searched}
use Rattle.local_search.specs.SignSearch.{lower, improving, improves, keeping, sign_search, Searches}
use Rattle.local_search.specs.Children.{parent_of}
use Rattle.local_search.proofs.LevelLaws.{flipped_length}
use Rattle.local_search.proofs.Same.{same_searched}
use Rattle.local_search.proofs.SignLaws.{same_improving, carried_search}
use native.Mathlib.Omega.{arith}
use Rattle.tables.specs.Table.{Table, floor_of}
use Rattle.sign_search.specs.Within.{Bounds, bounds, within}
use Rattle.sign_search.specs.Search.{objective_in, change_in, height_in, beam_search, limited_search}
use Rattle.sign_search.specs.Clauses.{Sound, exists_in, searched_in, Found-by, Found-within}
use Rattle.sign_search.proofs.NearLaws.{within_free}
use Rattle.sign_search.proofs.Lawful.{lawful, objective_fits, height_low}

improves_first : (a b : Bool) → cond a b false ≡ true → a ≡ true
improves_first true b e = refl
improves_first false b e = e

pub table_searches : (t : Table) (b : Bounds) (start : Choice) → Sound (length start.signs) t → start.objective ≡ objective_in t start.signs
    → Searches (change_in t) (exists_in t b) (height_in t start.signs) start
table_searches t b start ok is = record {
  objective = objective_in t;
  floor = floor_of t;
  height = height_in t;
  lawful = lawful ok.mirrors;
  improving = λ c i e. improves_first (improves (change_in t) c.signs i) (within b c.signs i) e;
  start_is = is;
  bounded = λ x p. objective_fits ok.mirrors ok.small x;
  enough = omega arith;
  low = height_low ok.mirrors ok.small start.signs;
}

-- with objectives carried along it is the same search
pub found_within : (t : Table) (b : Bounds) (W : ℕ) (start : List ℕ) (o : ℤ) (found : Choice) (rounds : ℕ) → Sound (length start) t → o ≡ objective_in t start
    → found ≡ (searched_in t b W (parent_of o start)).answer → rounds ≡ (searched_in t b W (parent_of o start)).rounds
    → Found-within t b W start found.objective rounds found.signs
unfolding limited_search
found_within t b W start o found rounds ok is e r =
    let carried = carried_search (lawful ok.mirrors) (keeping (change_in t) (within b)) W (height_in t start) start (parent_of o start) (refl, is, refl) in
    let same : found.signs ≡ (limited_search t (within b) W start).answer = ap (λ (c : Choice). c.signs) e ∙ carried.0.0 in
    record {
      answer_is = same;
      least_is = ap (λ (c : Choice). c.objective) e ∙ carried.0.1 ∙ ap (objective_in t) (sym same);
      rounds_are = r ∙ sym carried.1;
    }

-- with width 0 the start stands
pub found_none : (t : Table) (b : Bounds) (W : ℕ) (start : List ℕ) (o : ℤ) → W ≡ 0 → o ≡ objective_in t start → Found-within t b W start o 0 start
unfolding limited_search sign_search searched
found_none t b W start o e is =
    subst (λ (w : ℕ). Found-within t b w start o 0 start) (sym e) (record { answer_is = refl; least_is = is; rounds_are = refl })

-- ---- where every sign may flip, at any distance, it is 01's search

module _ (t : Table) (W : ℕ) (start : List ℕ) where
  abbrev m : ℕ
  m = length start

  abbrev free : Bounds
  free = bounds m m start

  abbrev Same : List ℕ → List ℕ → Type 0
  Same x y = (x ≡ y) × (length x ≡ m)

  same_test : (x y : List ℕ) → Same x y → (i : ℕ) → i < m → keeping (change_in t) (within free) x i ≡ improves (change_in t) y i
  same_test x y s i h =
      ap (λ (c : Bool). cond (improves (change_in t) x i) c false) (within_free m start x i h s.1)
      ∙ cond_self (improves (change_in t) x i) ∙ ap (λ (z : List ℕ). improves (change_in t) z i) s.0

  same_children : (x y : List ℕ) → Same x y → AllZip Same (improving (keeping (change_in t) (within free)) flip_sign m x) (improving (improves (change_in t)) flip_sign m y)
  same_children x y s =
      same_improving Same (keeping (change_in t) (within free)) flip_sign (improves (change_in t)) flip_sign x y m
      (λ i h. (same_test x y s i h, (ap (flip_sign i) s.0, flipped_length i x ∙ s.1)))

  pub limited_base : ((limited_search t (within free) W start).answer ≡ (beam_search t W start).answer) × ((limited_search t (within free) W start).rounds ≡ (beam_search t W start).rounds)
  unfolding limited_search beam_search sign_search
  limited_base =
      let s = same_searched Same (lower (objective_in t)) (lower (objective_in t)) (λ u v a b p q. ap₂ (lower (objective_in t)) p.0 q.0)
      (improving (keeping (change_in t) (within free)) flip_sign m) (improving (improves (change_in t)) flip_sign m) same_children W (height_in t start) start start (refl, refl) in
      (s.0.0, s.1)

  pub found_base : (least : ℤ) (rounds : ℕ) (answer : List ℕ) → Found-within t free W start least rounds answer → Found-by t W start least rounds answer
  found_base least rounds answer f = record { answer_is = f.answer_is ∙ limited_base.0; least_is = f.least_is; rounds_are = f.rounds_are ∙ limited_base.1 }
