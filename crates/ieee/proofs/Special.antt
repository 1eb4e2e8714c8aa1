-- The root where it is no number above 0 (01, "Roots, rows, rules"): NaN, the infinities, the zeros, what is below 0. Assumes nothing.
use Rattle.std.proofs.Common.{◌≡◌, ℕ, suc, true, false, ℤ, pos, refl}
use lib.Dec.{eqb-suc-zero}
use lib.Ieee.{nan, inf, fin}
use Rattle.ieee.specs.Sqrt.{sqrt_of}

pub sqrt_nan : sqrt_of nan ≡ nan
unfolding sqrt_of
sqrt_nan = refl

pub sqrt_infinity : sqrt_of (inf false) ≡ inf false
unfolding sqrt_of
sqrt_infinity = refl

-- +0 and −0 are their own roots
pub sqrt_zero : sqrt_of (fin false 0 (pos 0)) ≡ fin false 0 (pos 0)
unfolding sqrt_of
sqrt_zero = refl

pub sqrt_minus_zero : sqrt_of (fin true 0 (pos 0)) ≡ fin true 0 (pos 0)
unfolding sqrt_of
sqrt_minus_zero = refl

-- below 0 there is none, −infinity included
pub sqrt_below_zero : (m : ℕ) (e : ℤ) → sqrt_of (fin true (suc m) e) ≡ nan
unfolding sqrt_of
sqrt_below_zero m e = rw (eqb-suc-zero m)

pub sqrt_minus_infinity : sqrt_of (inf true) ≡ nan
unfolding sqrt_of
sqrt_minus_infinity = refl
