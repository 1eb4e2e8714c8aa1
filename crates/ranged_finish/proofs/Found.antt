-- What the library's `any` finds in two lists side by side. Assumes nothing.
use Prim.Native.Nat.{ℕ, zero, suc, ◌≤◌}
use mathlib.Core.Bool.{Bool, ◌||◌}
use mathlib.Core.List.{List, [], ◌∷◌}
use mathlib.Core.Path.{◌≡◌, refl, sym, ap, ◌∙◌}
use native.Mathlib.Omega.{arith}
use lib.IntN.{ℤ}
use lib.ListN.{length, take}
use Rattle.std.specs.List.{list_any, zip}
use Rattle.laws.specs.Lists.{elem_z, any_below}
use Rattle.tables.proofs.Anys.{any_front}

-- `any` over the first pairs, by index
pub any_pairs : (p : ℤ × ℤ → Bool) (n : ℕ) (xs ys : List ℤ) → n ≤ length xs → n ≤ length ys → list_any p (zip (take n xs) (take n ys)) ≡ any_below n (λ k. p (elem_z xs k, elem_z ys k))
unfolding any_below
any_pairs p zero xs ys h k = refl
any_pairs p (suc n) [] ys h k = absurd (omega arith)
any_pairs p (suc n) (x ∷ xs) [] h k = absurd (omega arith)
any_pairs p (suc n) (x ∷ xs) (y ∷ ys) h k =
    ap (λ t. p (x, y) || t) (any_pairs p n xs ys (omega arith) (omega arith)) ∙ sym (any_front n (λ k. p (elem_z (x ∷ xs) k, elem_z (y ∷ ys) k)))
