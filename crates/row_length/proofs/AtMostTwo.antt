-- Which doubles are finite and at most 2 in magnitude: those whose bits, the sign's left out, are at most the bits of 2.0.
--     at_most_two     of a double
--     two_of_bits     of 64 bits
-- Assumes nothing.
use mathlib.Core.Path.{◌≡◌, sym, ◌∙◌, subst}
use mathlib.Core.Logic.{◌⊎◌, inl, inr}
use mathlib.Core.Bool.{Bool, true, false, not}
use Prim.Native.Nat.{ℕ, zero, suc, ◌+◌, ◌*◌, ◌/◌, ◌%◌, ◌^◌, ◌≤◌, ◌<◌}
use native.Mathlib.Nat.{le_trans, le_of_lt, mul-le-mul, mod-lt}
use native.Mathlib.Omega.{arith}
use borrow.Author.Tests.{le-ltb}
use lib.Dec.{T, lit≤, lit<}
use lib.Pow.{pow_mono}
use lib.Ieee.{Float, nan, inf, fin, binary64, fits, is_nan, to_bits}
use lib.Ieee.Bits.{of_bits-fits, to_bits-of_bits, nan_bits_is, nan_bits_above}
use lib.Ieee.Scale.{finite}
use Rattle.std.proofs.lemmas.Bool.{cases_lt}
use Rattle.ieee.specs.Floats.{bits_of, double_of}
use Rattle.ieee.specs.Scale.{in_units, units_of_bits}
use Rattle.row_length.specs.Length.{AtMostTwo}
pub use Rattle.row_length.proofs.TwoBits.{two_bits}

-- ---- in units

fields_low : (x t : ℕ) → x * 2 ^ 52 + t ≤ two_bits → t < 2 ^ 52 → in_units x t ≤ 2 * 2 ^ 1074
fields_low zero t h l = le_trans (le_of_lt l) (lit≤ tt)
fields_low (suc y) t h l = by (cases_lt y 1023)
  where
    by : (y < 1023) ⊎ (1023 ≤ y) → (2 ^ 52 + t) * 2 ^ y ≤ 2 * 2 ^ 1074
    by (inl b) = le_trans (mul-le-mul {n₂ = 2 ^ 53} (omega arith) (pow_mono {j = 1022} (omega arith))) (lit≤ tt)
    by (inr b) = let e : y ≡ 1023 = omega arith in let z : t ≡ 0 = omega arith in rw (e, z) (lit≤ tt)

bits_low : (b : ℕ) → b ≤ two_bits → units_of_bits b ≤ 2 * 2 ^ 1074
bits_low b h = fields_low (b / 2 ^ 52) (b % 2 ^ 52) (omega arith) (mod-lt b (lit< tt))

-- ---- no NaN, no infinity

in_reach : (x : Float) → bits_of x % 2 ^ 63 ≤ two_bits → T (finite x)
unfolding to_bits
in_reach nan h = absurd (omega (arith, h))
in_reach (inf true) h = absurd (omega (arith, h))
in_reach (inf false) h = absurd (omega (arith, h))
in_reach (fin s m e) h = tt

pub at_most_two : (x : Float) → T (fits binary64 x) → bits_of x % 2 ^ 63 ≤ two_bits → AtMostTwo x
at_most_two x f h = record { held = f; is_finite = in_reach x h; low = bits_low (bits_of x % 2 ^ 63) h }

-- ---- 64 bits

no_nan : (b : ℕ) → b % 2 ^ 63 ≤ two_bits → is_nan (double_of b) ≡ false
no_nan b h = sym (nan_bits_is binary64 b) ∙ nan_bits_above binary64 b ∙ le-ltb 0x7ff0_0000_0000_0000 (b % 2 ^ 63) (le_trans h (lit≤ tt))

pub two_of_bits : (b : ℕ) → b < 2 ^ 64 → b % 2 ^ 63 ≤ two_bits → AtMostTwo (double_of b)
two_of_bits b l h =
    at_most_two (double_of b) (of_bits-fits binary64 b)
    (subst (λ (n : ℕ). n % 2 ^ 63 ≤ two_bits) (sym (to_bits-of_bits binary64 b l (subst (λ (n : Bool). T (not n)) (sym (no_nan b h)) tt))) h)
