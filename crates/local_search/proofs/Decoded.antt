-- A level in words, with its choices' signs as bytes: to take in children is the same either way. Assumes nothing.
use Prim.Native.Nat.{ℕ, zero, suc, ◌+◌, ◌*◌, ◌-◌, ◌≤◌, ◌<◌}
use native.Mathlib.Omega.{arith}
use mathlib.Core.Bool.{Bool, true, false, cond}
use mathlib.Core.List.{List, [], ◌∷◌, ◌++◌, map, map-append, map-map}
use mathlib.Core.Path.{◌≡◌, refl, sym, ap, ap₂, ◌∙◌, subst}
use lib.IntN.{ℤ, pos, ◌+ℤ◌}
use lib.Signed.{lt_z}
use lib.ListN.{length, take, drop, get_or, length-map}
use Rattle.std.proofs.lemmas.List.{take-map}
use Rattle.laws.specs.Lists.{over}
use Rattle.local_search.specs.LocalSearch.{All, insert, keep_best, best, children_of}
use Rattle.sign_words.specs.Packed.{Tidy}
use Rattle.local_search.specs.Level.{Choice, below, child_of, word_child, level_of, decoded, sign_level, Ascending, TidyChoice, TidyLevel}
use Rattle.local_search.specs.SignSearch.{improving, improves_c, flip_c, children_c, child_at}
use Rattle.local_search.specs.Children.{change_of, flip_w, listed_children, parent_of, better, Kept, Appended}
use Rattle.local_search.proofs.LevelLaws.{level_empty, length_level_of, objectives_of, objectives_are, level_copied}
use Rattle.local_search.proofs.All.{all_append, all_take}
use Rattle.local_search.proofs.SearchLaws.{all_insert}
use Rattle.local_search.proofs.OrderLaws.{rising_keep}
use Rattle.local_search.proofs.ExpandLaws.{choice_at, all_choices, parent_is}
use Rattle.sign_words.proofs.PackedLaws.{unpacked_flip, tidy_flip}

pub cond_map : {X Y : Type 0} (f : X → Y) (b : Bool) (x : X) → map f (cond b (x ∷ []) []) ≡ cond b (f x ∷ []) []
cond_map f true x = refl
cond_map f false x = refl

module _ (m : ℕ) where
  insert_map : (y : Choice) (l : List Choice) → map (decoded m) (insert below y l) ≡ insert below (decoded m y) (map (decoded m) l)
  unfolding insert below
  insert_map y [] = refl
  insert_map y (x ∷ xs) = go (lt_z y.objective x.objective) (insert_map y xs)
    where
      go : (b : Bool) → map (decoded m) (insert below y xs) ≡ insert below (decoded m y) (map (decoded m) xs)
          → map (decoded m) (cond b (y ∷ x ∷ xs) (x ∷ insert below y xs)) ≡ cond b (decoded m y ∷ decoded m x ∷ map (decoded m) xs) (decoded m x ∷ insert below (decoded m y) (map (decoded m) xs))
      go true e = refl
      go false e = ap (λ (t : List Choice). decoded m x ∷ t) e

  keep_best_map : (w : ℕ) (l ys : List Choice) → map (decoded m) (keep_best below w l ys) ≡ keep_best below w (map (decoded m) l) (map (decoded m) ys)
  unfolding keep_best
  keep_best_map w l [] = refl
  keep_best_map w l (y ∷ ys) =
      keep_best_map w (take w (insert below y l)) ys
      ∙ ap (λ (t : List Choice). keep_best below w t (map (decoded m) ys)) (sym (take-map (decoded m) w (insert below y l)) ∙ ap (take w) (insert_map y l))

  better_map : (b x : Choice) → decoded m (better b x) ≡ better (decoded m b) (decoded m x)
  unfolding below
  better_map b x = go (lt_z x.objective b.objective)
    where
      go : (t : Bool) → decoded m (cond t x b) ≡ cond t (decoded m x) (decoded m b)
      go true = refl
      go false = refl

  pub best_map : (b : Choice) (l : List Choice) → decoded m (best below b l) ≡ best below (decoded m b) (map (decoded m) l)
  unfolding best
  best_map b [] = refl
  best_map b (x ∷ l) = best_map (better b x) l ∙ ap (λ (c : Choice). best below c (map (decoded m) l)) (better_map b x)

  -- ---- the children

  children_map : (changes : List ℤ) (parent : Choice) (n : ℕ) → n ≤ m → m ≤ 64 * length parent.signs
      → map (decoded m) (listed_children changes n parent) ≡ children_c (change_of changes) (improves_c (change_of changes)) n (decoded m parent)
  unfolding improving flip_w flip_c word_child child_of
  children_map changes parent zero h held = refl
  children_map changes parent (suc n) h held =
      map-append (decoded m) (listed_children changes n parent) (child_at (improves_c (change_of changes)) (flip_w changes) parent n)
      ∙ ap₂ ◌++◌ (children_map changes parent n (omega arith) held)
      (cond_map (decoded m) (improves_c (change_of changes) parent n) (flip_w changes n parent)
      ∙ ap (λ (x : List ℕ). cond (improves_c (change_of changes) parent n) (parent_of (parent.objective +ℤ get_or changes n (pos 0)) x ∷ []) [])
      (unpacked_flip n parent.signs (omega arith) m (omega arith)))

  pub decoded_children : (changes : List ℤ) (parent : Choice) → m ≤ 64 * length parent.signs
      → map (decoded m) (listed_children changes m parent) ≡ children_c (change_of changes) (improves_c (change_of changes)) m (decoded m parent)
  decoded_children changes parent held = children_map changes parent m (omega arith) held

  -- ---- what the level functions leave

  pub kept_decoded : (width : ℕ) (before children after : List Choice) (count : ℕ) → Kept width before children after count
      → Kept width (map (decoded m) before) (map (decoded m) children) (map (decoded m) after) count
  kept_decoded width before children after count p = record { level = ap (map (decoded m)) p.level ∙ keep_best_map width before children; room = p.room }

  pub appended_decoded : (children after : List Choice) (count most : ℕ) → Appended [] children after count most
      → Appended [] (map (decoded m) children) (map (decoded m) after) count most
  appended_decoded children after count most p = record { level = ap (map (decoded m)) p.level; room = p.room }

-- ---- a level's objectives and lengths

pub sign_level_empty : (n m : ℕ) (os : List ℤ) (s : List ℕ) → sign_level n m 0 os s ≡ []
unfolding sign_level
sign_level_empty n m os s = ap (map (decoded m)) (level_empty n os s)

pub length_sign_level : (n m c : ℕ) (os : List ℤ) (s : List ℕ) → c ≤ length os → length (sign_level n m c os s) ≡ c
unfolding sign_level
length_sign_level n m c os s h = length-map (level_of n c os s) (decoded m) ∙ length_level_of n c os s h

pub sign_level_objectives : (n m c : ℕ) (os : List ℤ) (s : List ℕ) → c ≤ length os → objectives_of (sign_level n m c os s) ≡ take c os
unfolding sign_level
sign_level_objectives n m c os s h = map-map (λ (x : Choice). x.objective) (decoded m) (level_of n c os s) ∙ objectives_are n c os s h

pub sign_level_copied : (n m c : ℕ) (os os₀ os' : List ℤ) (s row rest : List ℕ) → c ≤ length os → c * n ≤ length s → os' ≡ over (take c os) os₀ → row ≡ take (c * n - 0) s
    → sign_level n m c os' (row ++ rest) ≡ sign_level n m c os s
unfolding sign_level
sign_level_copied n m c os os₀ os' s row rest p q eo es = ap (map (decoded m)) (level_copied n c os os₀ os' s row rest p q eo es)

pub sign_rising : (width n m c : ℕ) (os : List ℤ) (s : List ℕ) (before ys : List Choice) (count : ℕ) → c ≤ length os → Ascending (objectives_of before)
    → Kept width before ys (sign_level n m c os s) count → Ascending (take c os)
sign_rising width n m c os s before ys count q r p =
    subst Ascending (ap objectives_of (sym p.level) ∙ sign_level_objectives n m c os s q) (rising_keep width before ys r)

-- ---- a level's choices by index

all_decoded : (P : Choice → Type 0) (m : ℕ) (l : List Choice) → All P (map (decoded m) l) → All (λ c. P (decoded m c)) l
all_decoded P m [] a = tt
all_decoded P m (x ∷ l) a = (a.0, all_decoded P m l a.1)

pub all_sign_choices : (P : Choice → Type 0) (n m k c : ℕ) (os : List ℤ) (s : List ℕ) → k < c → c ≤ length os → All P (sign_level n m c os s) → P (decoded m (choice_at n os s k))
unfolding sign_level
all_sign_choices P n m k c os s h q a = all_choices (λ x. P (decoded m x)) n k c os s h q (all_decoded P m (level_of n c os s) a)

pub children_of_decoded : (f : Choice → List Choice) (n m c : ℕ) (os : List ℤ) (s : List ℕ) → children_of (λ x. f (decoded m x)) (level_of n c os s) ≡ children_of f (sign_level n m c os s)
unfolding sign_level children_of
children_of_decoded f n m c os s = go (level_of n c os s)
  where
    go : (l : List Choice) → children_of (λ x. f (decoded m x)) l ≡ children_of f (map (decoded m) l)
    go [] = refl
    go (x ∷ l) = ap (λ (r : List Choice). f (decoded m x) ++ r) (go l)

-- ---- the least so far

pub least_decoded : (n m c : ℕ) (os : List ℤ) (s : List ℕ) (b after : Choice) → after ≡ best below b (level_of n c os s) → decoded m after ≡ best below (decoded m b) (sign_level n m c os s)
unfolding sign_level
least_decoded n m c os s b after e = ap (decoded m) e ∙ best_map m b (level_of n c os s)

-- ---- no digit is set behind the last sign: the children of a tidy parent are tidy, and so is a level that takes them in

pub all_keep_best : (P : Choice → Type 0) (w : ℕ) (l ys : List Choice) → All P l → All P ys → All P (keep_best below w l ys)
unfolding keep_best
all_keep_best P w l [] a b = a
all_keep_best P w l (y ∷ ys) a b = all_keep_best P w (take w (insert below y l)) ys (all_take P w (insert below y l) (all_insert below P y l b.0 a)) b.1

-- the children of a parent that exist, of those of its first k signs
module _ (exists : Choice → ℕ → Bool) (changes : List ℤ) (m : ℕ) (parent : Choice) (held : m ≤ 64 * length parent.signs) (t : TidyChoice m parent) where
  pub tidy_children : (k : ℕ) → k ≤ m → All (TidyChoice m) (improving exists (flip_w changes) k parent)
  unfolding improving flip_w word_child
  tidy_children zero h = tt
  tidy_children (suc k) h =
      all_append (TidyChoice m) (improving exists (flip_w changes) k parent) (child_at exists (flip_w changes) parent k) (tidy_children k (omega arith)) (go (exists parent k))
    where
      go : (b : Bool) → All (TidyChoice m) (cond b (flip_w changes k parent ∷ []) [])
      go true = (tidy_flip k parent.signs (omega arith) m h t, tt)
      go false = tt

  pub kept_tidy : (k width : ℕ) (before after : List Choice) (count : ℕ) → k ≤ m → Kept width before (improving exists (flip_w changes) k parent) after count
      → All (TidyChoice m) before → All (TidyChoice m) after
  kept_tidy k width before after count h p a =
      subst (All (TidyChoice m)) (sym p.level) (all_keep_best (TidyChoice m) width before (improving exists (flip_w changes) k parent) a (tidy_children k h))

pub tidy_none : (n m : ℕ) (os : List ℤ) (s : List ℕ) → TidyLevel n m 0 os s
tidy_none n m os s = subst (All (TidyChoice m)) (sym (level_empty n os s)) tt

pub tidy_copied : (n m c : ℕ) (os os₀ os' : List ℤ) (s row rest : List ℕ) → c ≤ length os → c * n ≤ length s → os' ≡ over (take c os) os₀ → row ≡ take (c * n - 0) s
    → TidyLevel n m c os s → TidyLevel n m c os' (row ++ rest)
tidy_copied n m c os os₀ os' s row rest p q eo es t = subst (All (TidyChoice m)) (sym (level_copied n c os os₀ os' s row rest p q eo es)) t

-- row k as a part that is lent
pub tidy_part : (n m k c : ℕ) (os : List ℤ) (s : List ℕ) (room : k * n + n ≤ length s) → k < c → c ≤ length os → TidyLevel n m c os s
    → Tidy m (take (k * n + n - k * n) (drop (k * n) s))
tidy_part n m k c os s room h q t =
    subst (TidyChoice m) (sym (parent_is n os s k room (get_or os k (pos 0)) refl)) (all_choices (TidyChoice m) n k c os s h q t)

pub tidy_best : (n m c : ℕ) (os : List ℤ) (s : List ℕ) (b after : Choice) → after ≡ best below b (level_of n c os s) → TidyChoice m b → TidyLevel n m c os s → TidyChoice m after
unfolding best
tidy_best n m c os s b after e t a = subst (TidyChoice m) (sym e) (go b (level_of n c os s) t a)
  where
    pick : (b x : Choice) (r : Bool) → TidyChoice m b → TidyChoice m x → TidyChoice m (cond r x b)
    pick b x true p q = q
    pick b x false p q = p

    go : (b : Choice) (l : List Choice) → TidyChoice m b → All (TidyChoice m) l → TidyChoice m (best below b l)
    go b [] p q = p
    go b (x ∷ l) p q = go (better b x) l (pick b x (below x b) p q.0) q.1
