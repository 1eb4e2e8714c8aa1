-- Whole numbers as the code works them out in i64: nothing is lost.
-- Assumes nothing.
use mathlib.Core.Path.{◌≡◌, ap, ap₂, ◌∙◌}
use Prim.Native.Nat.{◌^◌, ◌≤◌}
use native.Mathlib.Omega.{arith}
use lib.IntN.{ℤ, pos, nat_abs, ◌+ℤ◌, ◌*ℤ◌}
use mir.Syntax.{w64}
use mir.Val.{to_z, of_z}
use mir.Facts.{to_z-of_z}
use Rattle.limits.specs.Limits.{most_magnitude, most_sign_magnitude}
use Rattle.std.proofs.lemmas.Int.{unsigned_abs-mul, fits_signed_from_abs}
use Rattle.laws.proofs.Integer.{abs_add}

-- what an i64 holds of z
abbrev pub word : ℤ → ℤ
word z = to_z w64 (of_z w64 z)

pub word_is : (z : ℤ) → nat_abs z ≤ 2 ^ 50 → word z ≡ z
word_is z h = to_z-of_z (fits_signed_from_abs w64 z (omega arith))

module _ (x y : ℤ) (a : nat_abs x ≤ 2 ^ 43) (b : nat_abs y ≤ most_magnitude) where
  eight_small : nat_abs (pos 8 *ℤ y) ≤ 2 ^ 43
  eight_small = omega (arith, unsigned_abs-mul (pos 8) y)

  inner : word x +ℤ word (pos 8 *ℤ word y) ≡ x +ℤ pos 8 *ℤ y
  inner =
      ap₂ ◌+ℤ◌ (word_is x (omega arith)) (ap (λ z. word (pos 8 *ℤ z)) (word_is y (omega arith)) ∙ word_is (pos 8 *ℤ y) (omega (arith, eight_small)))

  sum_small : nat_abs (x +ℤ pos 8 *ℤ y) ≤ 2 ^ 44
  sum_small = omega (arith, abs_add x (pos 8 *ℤ y), eight_small)

  pub raised_is : word (word x +ℤ word (pos 8 *ℤ word y)) ≡ x +ℤ pos 8 *ℤ y
  raised_is = ap word inner ∙ word_is (x +ℤ pos 8 *ℤ y) (omega (arith, sum_small))

module _ (x y : ℤ) (a : nat_abs x ≤ most_magnitude) (b : nat_abs y ≤ most_magnitude) where
  four_small : nat_abs (pos 4 *ℤ x) ≤ most_sign_magnitude
  four_small = omega (arith, unsigned_abs-mul (pos 4) x)

  first_term : word (pos 4 *ℤ word x) ≡ word (pos 4 *ℤ x)
  first_term = ap (λ z. word (pos 4 *ℤ z)) (word_is x (omega arith))

  pub start_is : word (word (pos 4 *ℤ word x) +ℤ word (pos 8 *ℤ word y)) ≡ pos 4 *ℤ x +ℤ pos 8 *ℤ y
  start_is = ap (λ z. word (z +ℤ word (pos 8 *ℤ word y))) first_term ∙ raised_is (pos 4 *ℤ x) y (omega (arith, four_small)) b
