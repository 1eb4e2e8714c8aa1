-- Momentum by its bits: the doubles from 0 to below 1 are those whose bits are below 1.0's, and −0.0. Assumes nothing.
use mathlib.Core.Path.{◌≡◌, refl, sym, ap, ◌∙◌, subst}
use mathlib.Core.Bool.{Bool, true, false, ◌&&◌}
use Prim.Native.Nat.{ℕ, zero, suc, ◌+◌, ◌-◌, ◌*◌, ◌/◌, ◌^◌, ◌≤◌, ◌<◌, zero-le}
use native.Mathlib.Nat.{le_of_suc-le-suc, mul-one, one-mul, zero-mul, zero-add, lt_of_le_of_lt, mul_comm, mul-pos, mul-le-mul_right, mul-lt-mul_of_pos_right, lt_irrefl, lt_of_lt_of_le, le_trans, le_of_eq, div-lt_iff_lt-mul, le-div_iff_mul-le, lt_of_not-le, zero-lt-suc, zero-div}
use native.Mathlib.Omega.{arith}
use lib.Dec.{T, ltb, eqb, eqb-suc-zero, lit<}
use lib.IntN.{ℤ, pos}
use lib.Pow.{pow-add, pow_pos, pow_mono, shl-shr, shr_mono}
use lib.Ieee.{Float, nan, inf, fin, binary64, up, down, size, fits, of_bits, to_bits, lt, eq, le}
use lib.Ieee.Digits.{size-lt, size-le, size_reaches}
use lib.Ieee.Fits.{kept-lt, up_pos, down_pos}
use lib.Ieee.Bits.{is_true, of_bits-to_bits}
use lib.Ieee.Order.{le_of_values}
use borrow.Author.Tests.{lt-ltb, le-ltb, eq-eqb, ne_eqb}
use Rattle.ieee.specs.Floats.{zero64, one64}
use Rattle.run_limits.specs.Momentum.{is_momentum}

-- the bits of 1.0
abbrev one_bits : ℕ
one_bits = 0x3ff0_0000_0000_0000

-- ---- a magnitude of n units of 2 ^ -1074, and its bits

abbrev magnitude_bits : ℕ → ℕ
magnitude_bits n = (size n - 53) * 2 ^ 52 + n / 2 ^ (size n - 53)

low_bits : (s q : ℕ) → s ≤ 1074 → q < 2 ^ 53 → (s - 53) * 2 ^ 52 + q < one_bits
low_bits s q h l = omega arith

high_bits : (s q : ℕ) → 1074 < s → 2 ^ 52 ≤ q → one_bits ≤ (s - 53) * 2 ^ 52 + q
high_bits s q h l = omega arith

under_one : (n : ℕ) → n < 2 ^ 1074 → magnitude_bits n < one_bits
under_one n h = low_bits (size n) (n / 2 ^ (size n - 53)) (size-le n 1074 h) (kept-lt 53 n)

long : (n : ℕ) → 2 ^ 1074 ≤ n → 1074 < size n
long n h = lt_of_not-le (λ s. lt_irrefl n (lt_of_lt_of_le (size-lt n) (le_trans (pow_mono {j = 1074} s) h)))

-- 53 digits are left of one that has more
leading : (n : ℕ) → 1074 < size n → 2 ^ 52 ≤ n / 2 ^ (size n - 53)
leading n h =
    let k = size n - 53 in
    let l : 2 ^ 52 * 2 ^ k ≤ n = le_trans (le_of_eq (sym (pow-add 2 52 k))) (size_reaches n (52 + k) (omega arith)) in
    le_trans (le_of_eq (sym (shl-shr (2 ^ 52) k))) (shr_mono k l)

from_one : (n : ℕ) → 2 ^ 1074 ≤ n → one_bits ≤ magnitude_bits n
from_one n h = high_bits (size n) (n / 2 ^ (size n - 53)) (long n h) (leading n (long n h))

-- ---- a finite number of magnitude a / d

-- a / d is below 1 just where it is fewer than 2 ^ 1074 units
fewer : (a d w : ℕ) → 0 < d → 0 < w → a < d → a * w / d < w
fewer a d w p q h = (div-lt_iff_lt-mul p).1 (subst (λ (x : ℕ). a * w < x) (mul_comm d w) (mul-lt-mul_of_pos_right h q))

as_many : (a d w : ℕ) → 0 < d → d ≤ a → w ≤ a * w / d
as_many a d w p h = (le-div_iff_mul-le p).1 (subst (λ (x : ℕ). x ≤ a * w) (mul_comm d w) (mul-le-mul_right w h))

abbrev units_in : ℕ → ℤ → ℕ
units_in m e = m * up e * 2 ^ 1074 / down e

bits_of_fin : (m : ℕ) (e : ℤ) → to_bits binary64 (fin false m e) ≡ magnitude_bits (units_in m e)
unfolding to_bits
bits_of_fin m e = ap (λ (x : ℕ). x + units_in m e / 2 ^ (size (units_in m e) - 53)) (zero-add ((size (units_in m e) - 53) * 2 ^ 52))

-- ---- what is a momentum, of the finite numbers

zero_is : zero64 ≡ fin false 0 (pos 0)
unfolding of_bits
zero_is = refl

one_is : one64 ≡ fin false 1 (pos 0)
unfolding of_bits
one_is = refl

minus_zero_is : of_bits binary64 (2 ^ 63) ≡ fin true 0 (pos 0)
unfolding of_bits
minus_zero_is = refl

momentum_is : (x : Float) → is_momentum x ≡ (le (fin false 0 (pos 0)) x && lt x (fin false 1 (pos 0)))
momentum_is x = ap (λ (z : Float). le z x && lt x one64) zero_is ∙ ap (λ (z : Float). le (fin false 0 (pos 0)) x && lt x z) one_is

not_below : (m : ℕ) (e : ℤ) → le (fin false 0 (pos 0)) (fin false m e) ≡ true
not_below m e =
    is_true _ (le_of_values (fin false 0 (pos 0)) (fin false m e) 0 1 (m * up e) (down e) (lit< tt) (down_pos e) (refl, refl) (refl, refl) (le_trans (le_of_eq (zero-mul (down e))) zero-le))

below_one : (m : ℕ) (e : ℤ) → lt (fin false m e) (fin false 1 (pos 0)) ≡ ltb (m * up e) (down e)
unfolding lt
below_one m e = ap (λ (a : ℕ). ltb a (1 * 1 * down e)) (mul-one (m * up e)) ∙ ap (λ (b : ℕ). ltb (m * up e) b) (one-mul (down e))

momentum_fin : (m : ℕ) (e : ℤ) → is_momentum (fin false m e) ≡ ltb (m * up e) (down e)
momentum_fin m e = momentum_is (fin false m e) ∙ ap (λ (b : Bool). b && lt (fin false m e) (fin false 1 (pos 0))) (not_below m e) ∙ below_one m e

-- −0.0 is one, and no number below 0
momentum_minus_zero : (e : ℤ) → is_momentum (fin true 0 e) ≡ true
unfolding le lt eq
momentum_minus_zero e =
    momentum_is (fin true 0 e)
    ∙ rw (zero-mul (down e), zero-mul (up e), one-mul (down e), zero-add (down e), lt-ltb 0 (down e) (down_pos e)) refl

momentum_negative : (m : ℕ) (e : ℤ) → is_momentum (fin true (suc m) e) ≡ false
unfolding le lt eq
momentum_negative m e =
    momentum_is (fin true (suc m) e)
    ∙ rw (zero-mul (down e), mul-one (suc m * up e), ne_eqb 0 (suc m * up e) (λ z. lt_irrefl 0 (subst (λ (x : ℕ). 0 < x) (sym z) (mul-pos (zero-lt-suc m) (up_pos e))))) refl

-- ---- by the bits

negative_bits : (m : ℕ) (e : ℤ) → one_bits ≤ to_bits binary64 (fin true m e)
unfolding to_bits
negative_bits m e = above (size (units_in m e) - 53) (units_in m e / 2 ^ (size (units_in m e) - 53))
  where
    above : (k q : ℕ) → one_bits ≤ 2 ^ 63 + k * 2 ^ 52 + q
    above k q = omega arith

-- only −0.0 has the sign's bit alone
abbrev is_minus_zero : Float → Bool
is_minus_zero nan = false
is_minus_zero (inf s) = false
is_minus_zero (fin s m e) = s && eqb m 0

sign_alone : (x : Float) → T (fits binary64 x) → to_bits binary64 x ≡ 2 ^ 63 → is_minus_zero x ≡ true
sign_alone x f e = ap is_minus_zero (sym (of_bits-to_bits binary64 x f) ∙ ap (of_bits binary64) e ∙ minus_zero_is)

pub low_momentum : (x : Float) → to_bits binary64 x < one_bits → is_momentum x ≡ true
unfolding to_bits
low_momentum nan h = absurd (omega arith)
low_momentum (inf true) h = absurd (omega arith)
low_momentum (inf false) h = absurd (omega arith)
low_momentum (fin true m e) h = absurd (lt_irrefl one_bits (lt_of_le_of_lt (negative_bits m e) h))
low_momentum (fin false m e) h =
    momentum_fin m e
    ∙ lt-ltb _ _ (lt_of_not-le (λ l. lt_irrefl one_bits (lt_of_le_of_lt (le_trans (from_one (units_in m e) (as_many (m * up e) (down e) (2 ^ 1074) (down_pos e) l)) (le_of_eq (sym (bits_of_fin m e)))) h)))

bits_nan : eqb (to_bits binary64 nan) (2 ^ 63) ≡ is_momentum nan
unfolding to_bits le lt eq of_bits
bits_nan = refl

bits_infinity : (s : Bool) → eqb (to_bits binary64 (inf s)) (2 ^ 63) ≡ is_momentum (inf s)
unfolding to_bits le lt eq of_bits
bits_infinity true = refl
bits_infinity false = refl

minus_zero_bits : (e : ℤ) → to_bits binary64 (fin true 0 e) ≡ 2 ^ 63
unfolding to_bits size
minus_zero_bits e = rw (zero-mul (up e), zero-mul (2 ^ 1074), zero-div (down e)) refl

pub high_momentum : (x : Float) → T (fits binary64 x) → one_bits ≤ to_bits binary64 x → eqb (to_bits binary64 x) (2 ^ 63) ≡ is_momentum x
high_momentum nan f h = bits_nan
high_momentum (inf true) f h = bits_infinity true
high_momentum (inf false) f h = bits_infinity false
high_momentum (fin true zero e) f h = eq-eqb _ _ (minus_zero_bits e) ∙ sym (momentum_minus_zero e)
high_momentum (fin true (suc m) e) f h = ne_eqb _ _ (λ b. subst T (sym (sign_alone (fin true (suc m) e) f b) ∙ eqb-suc-zero m) tt) ∙ sym (momentum_negative m e)
high_momentum (fin false m e) f h =
    ne_eqb _ _ (λ b. subst T (sym (sign_alone (fin false m e) f b)) tt)
    ∙ sym (momentum_fin m e ∙ le-ltb _ _ (le_of_suc-le-suc (lt_of_not-le (λ l. lt_irrefl one_bits (lt_of_le_of_lt h (subst (λ (x : ℕ). x < one_bits) (sym (bits_of_fin m e)) (under_one (units_in m e) (fewer (m * up e) (down e) (2 ^ 1074) (down_pos e) (pow_pos 1074) l))))))))
