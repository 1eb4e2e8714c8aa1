-- Laws of `All`. Assumes nothing.
use Prim.Native.Nat.{ℕ, zero, suc}
use mathlib.Core.List.{List, [], ◌∷◌, ◌++◌}
use lib.ListN.{take}
use Rattle.local_search.specs.LocalSearch.{All}

module _ {X : Type 0} (P : X → Type 0) where
  pub all_append : (l r : List X) → All P l → All P r → All P (l ++ r)
  all_append [] r a b = b
  all_append (x ∷ xs) r a b = (a.0, all_append xs r a.1 b)

  pub all_left : (l r : List X) → All P (l ++ r) → All P l
  all_left [] r a = tt
  all_left (x ∷ xs) r a = (a.0, all_left xs r a.1)

  pub all_right : (l r : List X) → All P (l ++ r) → All P r
  all_right [] r a = a
  all_right (x ∷ xs) r a = all_right xs r a.1

  pub all_take : (n : ℕ) (l : List X) → All P l → All P (take n l)
  all_take zero l a = tt
  all_take (suc n) [] a = tt
  all_take (suc n) (x ∷ xs) a = (a.0, all_take n xs a.1)

module _ {X : Type 0} (P Q : X → Type 0) where
  pub all_map : ((x : X) → P x → Q x) → (l : List X) → All P l → All Q l
  all_map f [] a = tt
  all_map f (x ∷ xs) a = (f x a.0, all_map f xs a.1)
