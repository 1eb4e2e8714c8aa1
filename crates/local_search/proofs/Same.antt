-- Two searches whose choices correspond one by one give corresponding answers in as many rounds:
-- for objectives that are carried along, and for choices that are stored another way. Assumes nothing.
use Prim.Native.Nat.{ℕ, zero, suc}
use mathlib.Core.Bool.{Bool, true, false, cond}
use mathlib.Core.List.{List, [], ◌∷◌, ◌++◌}
use mathlib.Core.Path.{◌≡◌, refl, ap, subst}
use lib.ListN.{length, take}
use Rattle.std.specs.List.{AllZip}
use Rattle.local_search.specs.LocalSearch.{insert, insert_all, stable_sort, best, concat, children_of, next_level, levels, found_in, searched}

module _ {X Y : Type 0} (R : X → Y → Type 0) where
  pub same_append : (a c : List X) (b d : List Y) → AllZip R a b → AllZip R c d → AllZip R (a ++ c) (b ++ d)
  same_append [] c [] d p q = q
  same_append [] c (y ∷ b) d p q = absurd p
  same_append (x ∷ a) c [] d p q = absurd p
  same_append (x ∷ a) c (y ∷ b) d p q = (p.0, same_append a c b d p.1 q)

  same_take : (n : ℕ) (a : List X) (b : List Y) → AllZip R a b → AllZip R (take n a) (take n b)
  same_take zero a b p = tt
  same_take (suc n) [] [] p = tt
  same_take (suc n) [] (y ∷ b) p = p
  same_take (suc n) (x ∷ a) [] p = p
  same_take (suc n) (x ∷ a) (y ∷ b) p = (p.0, same_take n a b p.1)

  same_length : (a : List X) (b : List Y) → AllZip R a b → length a ≡ length b
  same_length [] [] p = refl
  same_length [] (y ∷ b) p = absurd p
  same_length (x ∷ a) [] p = absurd p
  same_length (x ∷ a) (y ∷ b) p = ap suc (same_length a b p.1)

  pub same_cond : (s t : Bool) (a c : List X) (b d : List Y) → s ≡ t → AllZip R a b → AllZip R c d → AllZip R (cond s a c) (cond t b d)
  same_cond s t a c b d e p q = subst (λ (u : Bool). AllZip R (cond s a c) (cond u b d)) e (go s)
    where
      go : (u : Bool) → AllZip R (cond u a c) (cond u b d)
      go true = p
      go false = q

module _ {X Y : Type 0} (R : X → Y → Type 0) where
  same_concat : (ls : List (List X)) (ks : List (List Y)) → AllZip (AllZip R) ls ks → AllZip R (concat ls) (concat ks)
  unfolding concat
  same_concat [] [] p = tt
  same_concat [] (k ∷ ks) p = absurd p
  same_concat (l ∷ ls) [] p = absurd p
  same_concat (l ∷ ls) (k ∷ ks) p = same_append R l (concat ls) k (concat ks) p.0 (same_concat ls ks p.1)

  module _ (less : X → X → Bool) (less' : Y → Y → Bool) (orders : (x u : X) (y v : Y) → R x y → R u v → less x u ≡ less' y v) where
    same_insert : (x : X) (y : Y) (l : List X) (k : List Y) → R x y → AllZip R l k → AllZip R (insert less x l) (insert less' y k)
    unfolding insert
    same_insert x y [] [] r p = (r, tt)
    same_insert x y [] (v ∷ k) r p = absurd p
    same_insert x y (u ∷ l) [] r p = absurd p
    same_insert x y (u ∷ l) (v ∷ k) r p =
        same_cond R (less x u) (less' y v) (x ∷ u ∷ l) (u ∷ insert less x l) (y ∷ v ∷ k) (v ∷ insert less' y k)
        (orders x u y v r p.0) (r, (p.0, p.1)) (p.0, same_insert x y l k r p.1)

    same_insert_all : (l xs : List X) (k ys : List Y) → AllZip R l k → AllZip R xs ys → AllZip R (insert_all less l xs) (insert_all less' k ys)
    unfolding insert_all
    same_insert_all l [] k [] p q = p
    same_insert_all l [] k (y ∷ ys) p q = absurd q
    same_insert_all l (x ∷ xs) k [] p q = absurd q
    same_insert_all l (x ∷ xs) k (y ∷ ys) p q = same_insert_all (insert less x l) xs (insert less' y k) ys (same_insert x y l k q.0 p) q.1

    same_best : (b : X) (c : Y) (l : List X) (k : List Y) → R b c → AllZip R l k → R (best less b l) (best less' c k)
    unfolding best
    same_best b c [] [] r p = r
    same_best b c [] (v ∷ k) r p = absurd p
    same_best b c (u ∷ l) [] r p = absurd p
    same_best b c (u ∷ l) (v ∷ k) r p = same_best (cond (less u b) u b) (cond (less' v c) v c) l k picked p.1
      where
        go : (t : Bool) → R (cond t u b) (cond t v c)
        go true = p.0
        go false = r

        picked : R (cond (less u b) u b) (cond (less' v c) v c)
        picked = subst (λ (t : Bool). R (cond (less u b) u b) (cond t v c)) (orders u b v c p.0 r) (go (less u b))

    module _ (children : X → List X) (children' : Y → List Y) (kids : (x : X) (y : Y) → R x y → AllZip R (children x) (children' y)) where
      same_children_of : (l : List X) (k : List Y) → AllZip R l k → AllZip R (children_of children l) (children_of children' k)
      unfolding children_of
      same_children_of [] [] p = tt
      same_children_of [] (v ∷ k) p = absurd p
      same_children_of (u ∷ l) [] p = absurd p
      same_children_of (u ∷ l) (v ∷ k) p =
          same_append R (children u) (children_of children l) (children' v) (children_of children' k) (kids u v p.0) (same_children_of l k p.1)

      same_next : (W : ℕ) (l : List X) (k : List Y) → AllZip R l k → AllZip R (next_level less children W l) (next_level less' children' W k)
      unfolding next_level stable_sort
      same_next W l k p =
          same_take R W (insert_all less [] (children_of children l)) (insert_all less' [] (children_of children' k))
          (same_insert_all [] (children_of children l) [] (children_of children' k) tt (same_children_of l k p))

      same_levels : (W fuel : ℕ) (l : List X) (k : List Y) → AllZip R l k → AllZip (AllZip R) (levels less children W fuel l) (levels less' children' W fuel k)
      unfolding levels
      same_levels W zero l k p = tt
      same_levels W (suc fuel) [] [] p = tt
      same_levels W (suc fuel) [] (v ∷ k) p = absurd p
      same_levels W (suc fuel) (u ∷ l) [] p = absurd p
      same_levels W (suc fuel) (u ∷ l) (v ∷ k) p =
          (p, same_levels W fuel (next_level less children W (u ∷ l)) (next_level less' children' W (v ∷ k)) (same_next W (u ∷ l) (v ∷ k) p))

      -- the same answer, in as many rounds
      pub same_searched : (W fuel : ℕ) (x : X) (y : Y) → R x y
          → R (searched less children W fuel x).answer (searched less' children' W fuel y).answer × ((searched less children W fuel x).rounds ≡ (searched less' children' W fuel y).rounds)
      unfolding searched found_in
      same_searched zero fuel x y r = (r, refl)
      same_searched (suc w) fuel x y r =
          let ls = same_levels (suc w) fuel (children x) (children' y) (kids x y r) in (
            same_best x y (concat (levels less children (suc w) fuel (children x))) (concat (levels less' children' (suc w) fuel (children' y))) r
                (same_concat (levels less children (suc w) fuel (children x)) (levels less' children' (suc w) fuel (children' y)) ls),
            same_length (AllZip R) (levels less children (suc w) fuel (children x)) (levels less' children' (suc w) fuel (children' y)) ls,
          )
