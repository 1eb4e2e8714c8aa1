-- The laws of the local search. Assumes nothing.
use Prim.Native.Nat.{ℕ, zero, suc, ◌+◌, ◌*◌, ◌≤◌, ◌<◌}
use native.Mathlib.Omega.{arith}
use mathlib.Core.Bool.{Bool, true, false, cond}
use mathlib.Core.List.{List, [], ◌∷◌}
use mathlib.Core.Path.{◌≡◌, refl, sym, ap, ◌∙◌}
use lib.Dec.{ltb}
use lib.ListN.{length, take}
use lib.Seq.{take-take, take-nil}
use borrow.Author.Tests.{ltb-true, ltb-false}
use Rattle.local_search.specs.LocalSearch.{All, insert, insert_all, keep_best, stable_sort, best, concat, children_of, next_level, levels, Levels, Found, found_in, searched}
use Rattle.local_search.specs.LocalSearch.Levels.{none, more}
use Rattle.local_search.proofs.All.{all_append, all_left, all_right, all_take, all_map}

-- ---- a bounded buffer keeps the first `width` of the full stable order: no law of the order is needed

module _ {X : Type 0} (less : X → X → Bool) where
  pub take_insert : (width : ℕ) (y : X) (l : List X) → take width (insert less y l) ≡ take width (insert less y (take width l))
  unfolding insert
  take_insert zero y l = refl
  take_insert (suc n) y [] = refl
  take_insert (suc n) y (x ∷ xs) = go (less y x) (take_insert n y xs)
    where
      go : (b : Bool) → take n (insert less y xs) ≡ take n (insert less y (take n xs))
          → take (suc n) (cond b (y ∷ x ∷ xs) (x ∷ insert less y xs)) ≡ take (suc n) (cond b (y ∷ x ∷ take n xs) (x ∷ insert less y (take n xs)))
      go true e = ap (λ (r : List X). y ∷ r) (sym (take-take n (suc n) (x ∷ xs) (omega arith)))
      go false e = ap (λ (r : List X). x ∷ r) e

  pub keep_best_is : (width : ℕ) (sorted ys : List X) → take width (insert_all less sorted ys) ≡ keep_best less width (take width sorted) ys
  unfolding insert_all keep_best
  keep_best_is width sorted [] = refl
  keep_best_is width sorted (y ∷ ys) =
      keep_best_is width (insert less y sorted) ys ∙ ap (λ (l : List X). keep_best less width l ys) (take_insert width y sorted)

  pub next_level_is : (children : X → List X) (width : ℕ) (level : List X)
      → next_level less children width level ≡ keep_best less width [] (children_of children level)
  unfolding next_level stable_sort
  next_level_is children width level =
      keep_best_is width [] (children_of children level) ∙ ap (λ (l : List X). keep_best less width l (children_of children level)) (take-nil width)

-- ---- what holds of the choices put in holds of those that come out

module _ {X : Type 0} (less : X → X → Bool) (P : X → Type 0) where
  pub all_insert : (y : X) (l : List X) → P y → All P l → All P (insert less y l)
  unfolding insert
  all_insert y [] p a = (p, tt)
  all_insert y (x ∷ xs) p a = go (less y x) (all_insert y xs p a.1)
    where
      go : (b : Bool) → All P (insert less y xs) → All P (cond b (y ∷ x ∷ xs) (x ∷ insert less y xs))
      go true r = (p, (a.0, a.1))
      go false r = (a.0, r)

  all_insert_all : (l ys : List X) → All P l → All P ys → All P (insert_all less l ys)
  unfolding insert_all
  all_insert_all l [] a b = a
  all_insert_all l (y ∷ ys) a b = all_insert_all (insert less y l) ys (all_insert y l b.0 a) b.1

  -- the best of b and l is one of them
  all_best : (b : X) (l : List X) → P b → All P l → P (best less b l)
  unfolding best
  all_best b [] p a = p
  all_best b (x ∷ xs) p a = all_best (cond (less x b) x b) xs (go (less x b)) a.1
    where
      go : (t : Bool) → P (cond t x b)
      go true = a.0
      go false = p

module _ {X : Type 0} (children : X → List X) (P : X → Type 0) where
  all_children_of : (l : List X) → All (λ x. All P (children x)) l → All P (children_of children l)
  unfolding children_of
  all_children_of [] a = tt
  all_children_of (x ∷ xs) a = all_append P (children x) (children_of children xs) a.0 (all_children_of xs a.1)

  all_by_parent : (l : List X) → All P (children_of children l) → All (λ x. All P (children x)) l
  unfolding children_of
  all_by_parent [] a = tt
  all_by_parent (x ∷ xs) a =
      (all_left P (children x) (children_of children xs) a, all_by_parent xs (all_right P (children x) (children_of children xs) a))

-- ---- the levels are determined: whatever fuel has lasted, they are these

module _ {X : Type 0} (less : X → X → Bool) (children : X → List X) (width : ℕ) where
  pub levels_are : (fuel : ℕ) (l : List X) (ls : List (List X)) → length ls ≤ fuel → Levels less children width l ls → levels less children width fuel l ≡ ls
  unfolding levels
  levels_are zero l ls q none = refl
  levels_are (suc fuel) l ls q none = refl
  levels_are zero l ls q (more r) = absurd (omega arith)
  levels_are (suc fuel) l ls q (more {x} {xs} {ls = rest} r) =
      ap (λ (t : List (List X)). (x ∷ xs) ∷ t) (levels_are fuel (next_level less children width (x ∷ xs)) rest (omega arith) r)

  -- the levels of a level are one list
  pub levels_unique : {l : List X} {ls ks : List (List X)} → Levels less children width l ls → Levels less children width l ks → ls ≡ ks
  levels_unique {l} {ls} {ks} p q = sym (levels_are (length ls + length ks) l ls (omega arith) p) ∙ levels_are (length ls + length ks) l ks (omega arith) q

-- ---- the search, for an objective whose height is a number, and children that are lower by 4 at least

module _ {X : Type 0} (less : X → X → Bool) (children : X → List X) (Good : X → Type 0) (height : X → ℕ)
    (orders : (x y : X) → Good x → Good y → less x y ≡ ltb (height x) (height y))
    (falls : (x : X) → Good x → All (λ y. Good y × (height y + 4 ≤ height x)) (children x)) where
  -- of two good choices, by what the test says
  less_true : (x y : X) → Good x → Good y → less x y ≡ true → height x < height y
  less_true x y gx gy e = ltb-true (height x) (height y) (sym (orders x y gx gy) ∙ e)

  less_false : (x y : X) → Good x → Good y → less x y ≡ false → height y ≤ height x
  less_false x y gx gy e = ltb-false (height x) (height y) (sym (orders x y gx gy) ∙ e)

  -- good, and n at least below the height h
  abbrev pub Under : ℕ → ℕ → X → Type 0
  Under n h x = Good x × (n + height x ≤ h)

  all_good : (n h : ℕ) (l : List X) → All (Under n h) l → All Good l
  all_good n h = all_map (Under n h) Good (λ x u. u.0)

  under_children : (n h : ℕ) (l : List X) → All (Under n h) l → All (Under (n + 4) h) (children_of children l)
  under_children n h l a =
      all_children_of children (Under (n + 4) h) l
      (all_map (Under n h) (λ x. All (Under (n + 4) h) (children x))
      (λ x u. all_map (λ y. Good y × (height y + 4 ≤ height x)) (Under (n + 4) h) (λ y f. (f.0, omega arith)) (children x) (falls x u.0))
      l a)

  module _ (width : ℕ) where
    under_next : (n h : ℕ) (l : List X) → All (Under n h) l → All (Under (n + 4) h) (next_level less children width l)
    unfolding next_level stable_sort
    under_next n h l a =
        all_take (Under (n + 4) h) width (insert_all less [] (children_of children l))
        (all_insert_all less (Under (n + 4) h) [] (children_of children l) tt (under_children n h l a))

    -- ---- the fuel lasts

    enough : (fuel n h : ℕ) (l : List X) → h < n + fuel → All (Under n h) l → Levels less children width l (levels less children width fuel l)
    unfolding levels
    enough zero n h [] q a = none
    enough zero n h (x ∷ xs) q a = absurd (omega arith)
    enough (suc fuel) n h [] q a = none
    enough (suc fuel) n h (x ∷ xs) q a = more (enough fuel (n + 4) h (next_level less children width (x ∷ xs)) (omega arith) (under_next n h (x ∷ xs) a))

    -- ---- the least of a level comes first, so where what is kept is at least b, all are

    abbrev Head : ℕ → List X → Type 0
    Head b [] = Unit {0}
    Head b (x ∷ xs) = b ≤ height x

    abbrev AtLeast : ℕ → X → Type 0
    AtLeast b x = b ≤ height x

    head_insert : (b : ℕ) (y : X) (l : List X) → Good y → All Good l → Head b (insert less y l) → (b ≤ height y) × Head b l
    unfolding insert
    head_insert b y [] gy gl q = (q, tt)
    head_insert b y (x ∷ xs) gy gl q = go (less y x) refl q
      where
        go : (t : Bool) → less y x ≡ t → Head b (cond t (y ∷ x ∷ xs) (x ∷ insert less y xs)) → (b ≤ height y) × (b ≤ height x)
        go true e r = (r, omega (arith, less_true y x gy gl.0 e))
        go false e r = (omega (arith, less_false y x gy gl.0 e), r)

    head_insert_all : (b : ℕ) (l ys : List X) → All Good l → All Good ys → Head b (insert_all less l ys) → Head b l × All (AtLeast b) ys
    unfolding insert_all
    head_insert_all b l [] gl gy q = (q, tt)
    head_insert_all b l (y ∷ ys) gl gy q =
        let r = head_insert_all b (insert less y l) ys (all_insert less Good y l gy.0 gl) gy.1 q in
        let i = head_insert b y l gy.0 gl r.0 in
        (i.1, (i.0, r.1))

    head_of_all : (b : ℕ) (l : List X) → 1 ≤ width → All (AtLeast b) (take width l) → Head b l
    head_of_all b [] w a = tt
    head_of_all b (x ∷ xs) w a = go width w a
      where
        go : (n : ℕ) → 1 ≤ n → All (AtLeast b) (take n (x ∷ xs)) → b ≤ height x
        go zero u c = absurd (omega arith)
        go (suc n) u c = c.0

    kept_least : (b : ℕ) (l : List X) → 1 ≤ width → All Good (children_of children l) → All (AtLeast b) (next_level less children width l) → All (AtLeast b) (children_of children l)
    unfolding next_level stable_sort
    kept_least b l w g a = (head_insert_all b [] (children_of children l) tt g (head_of_all b (stable_sort less (children_of children l)) w a)).1

    -- ---- from the levels back to the first one

    first_level : (P : X → Type 0) (l : List X) (ls : List (List X)) → Levels less children width l ls → All P (concat ls) → All P l
    unfolding concat
    first_level P l ls none a = tt
    first_level P l ls (more {x} {xs} {ls = rest} r) a = all_left P (x ∷ xs) (concat rest) a

    -- every child of a choice of some level is at least b, where all choices of all levels are
    children_least : (b n h : ℕ) (l : List X) (ls : List (List X)) → 1 ≤ width → All (Under n h) l → Levels less children width l ls → All (AtLeast b) (concat ls)
        → All (λ x. All (AtLeast b) (children x)) (concat ls)
    unfolding concat
    children_least b n h l ls w u none a = tt
    children_least b n h l ls w u (more {x} {xs} {ls = rest} r) a =
        let below : All (AtLeast b) (concat rest) = all_right (AtLeast b) (x ∷ xs) (concat rest) a in
        let next : List X = next_level less children width (x ∷ xs) in
        let good : All Good (children_of children (x ∷ xs)) = all_good (n + 4) h (children_of children (x ∷ xs)) (under_children n h (x ∷ xs) u) in
        let kept : All (AtLeast b) (children_of children (x ∷ xs)) = kept_least b (x ∷ xs) w good (first_level (AtLeast b) next rest r below) in
        all_append (λ z. All (AtLeast b) (children z)) (x ∷ xs) (concat rest)
        (all_by_parent children (AtLeast b) (x ∷ xs) kept)
        (children_least b (n + 4) h next rest w (under_next n h (x ∷ xs) u) r below)

    pub good_levels : (n h : ℕ) (l : List X) (ls : List (List X)) → All (Under n h) l → Levels less children width l ls → All Good (concat ls)
    unfolding concat
    good_levels n h l ls u none = tt
    good_levels n h l ls u (more {x} {xs} {ls = rest} r) =
        all_append Good (x ∷ xs) (concat rest) (all_good n h (x ∷ xs) u)
        (good_levels (n + 4) h (next_level less children width (x ∷ xs)) rest (under_next n h (x ∷ xs) u) r)

    -- ---- the best is at most the start and each choice

    best_least : (b : X) (l : List X) → Good b → All Good l → (height (best less b l) ≤ height b) × All (AtLeast (height (best less b l))) l
    unfolding best
    best_least b [] gb gl = (omega arith, tt)
    best_least b (x ∷ xs) gb gl = go (less x b) refl (best_least x xs gl.0 gl.1) (best_least b xs gb gl.1)
      where
        Least : X → X → Type 0
        Least z c = (height (best less z xs) ≤ height c) × All (AtLeast (height (best less z xs))) xs

        go : (t : Bool) → less x b ≡ t → Least x x → Least b b → (height (best less (cond t x b) xs) ≤ height b) × All (AtLeast (height (best less (cond t x b) xs))) (x ∷ xs)
        go true e p q = (omega (arith, less_true x b gl.0 gb e), (p.0, p.1))
        go false e p q = (q.0, (omega (arith, less_false x b gl.0 gb e), q.1))

    -- each round takes 4 off at least
    rounds_fall : (b n h : ℕ) (l : List X) (ls : List (List X)) → b + n ≤ h + 4 → All (Under n h) l → Levels less children width l ls → All (AtLeast b) (concat ls)
        → b + n + 4 * length ls ≤ h + 4
    unfolding concat
    rounds_fall b n h l ls q u none a = omega arith
    rounds_fall b n h l ls q u (more {x} {xs} {ls = rest} r) a =
        let next : List X = next_level less children width (x ∷ xs) in
        let f : b + (n + 4) + 4 * length rest ≤ h + 4 = rounds_fall b (n + 4) h next rest (omega arith) (under_next n h (x ∷ xs) u) r (all_right (AtLeast b) (x ∷ xs) (concat rest) a) in
        omega arith

    -- a good choice whose children are all at least as high has none
    childless : (x : X) → Good x → All (AtLeast (height x)) (children x) → children x ≡ []
    childless x g a = go (children x) a (falls x g)
      where
        go : (l : List X) → All (AtLeast (height x)) l → All (λ y. Good y × (height y + 4 ≤ height x)) l → l ≡ []
        go [] p q = refl
        go (y ∷ ys) p q = absurd (omega arith)

  -- ---- the search: no child of the answer improves it, and each round has taken 4 off at least

  pub record Improves (start : X) (found : Found X) : Type 0 where
    pub good : Good found.answer
    pub falls_by_rounds : height found.answer + 4 * found.rounds ≤ height start
    pub no_child : children found.answer ≡ []

  pub start_children : (start : X) → Good start → All (Under 4 (height start)) (children start)
  start_children start g =
      all_map (λ y. Good y × (height y + 4 ≤ height start)) (Under 4 (height start)) (λ y f. (f.0, omega arith)) (children start) (falls start g)

  pub levels_improve : (width : ℕ) (start : X) (ls : List (List X)) → 1 ≤ width → Good start → Levels less children width (children start) ls → Improves start (found_in less start ls)
  unfolding found_in
  levels_improve width start ls w g r =
      let first = start_children start g in
      let goods = good_levels width 4 (height start) (children start) ls first r in
      let least = best_least width start (concat ls) g goods in
      let b = height (best less start (concat ls)) in
      let good : Good (best less start (concat ls)) = all_best less Good start (concat ls) g goods in
      record {
        good = good;
        falls_by_rounds = omega (arith, rounds_fall width b 4 (height start) (children start) ls (omega arith) first r least.1);
        no_child = childless width (best less start (concat ls)) good
            (all_best less (λ x. All (AtLeast width b) (children x)) start (concat ls)
            (first_level width (AtLeast width b) (children start) ls r least.1)
            (children_least width b 4 (height start) (children start) ls w first r least.1));
      }

  -- the fuel never cuts the search short: with as much as the start's height, the levels end with an empty one
  pub levels_end : (width fuel : ℕ) (start : X) → height start ≤ fuel → Good start → Levels less children width (children start) (levels less children width fuel (children start))
  levels_end width fuel start q g = enough width fuel 4 (height start) (children start) (omega arith) (start_children start g)

  -- the search with no fuel: whatever levels lead from the start's children to an empty one, it finds the first of least among them
  pub searched_levels : (width fuel : ℕ) (start : X) (ls : List (List X)) → height start ≤ fuel → Good start → Levels less children (suc width) (children start) ls
      → searched less children (suc width) fuel start ≡ found_in less start ls
  unfolding searched
  searched_levels width fuel start ls q g r = ap (found_in less start) (levels_unique less children (suc width) (levels_end (suc width) fuel start q g) r)

  pub searched_improves : (width fuel : ℕ) (start : X) → 1 ≤ width → height start ≤ fuel → Good start → Improves start (searched less children width fuel start)
  unfolding searched
  searched_improves zero fuel start w q g = absurd (omega arith)
  searched_improves (suc n) fuel start w q g = levels_improve (suc n) start (levels less children (suc n) fuel (children start)) w g (levels_end (suc n) fuel start q g)
