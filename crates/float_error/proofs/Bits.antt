-- The units of a finite double from its bits. Assumes nothing.
use mathlib.Core.Path.{◌≡◌, sym, ap, ◌∙◌, subst}
use mathlib.Core.Logic.{⊎_elim}
use mathlib.Core.Bool.{Bool, true, false, cond}
use Prim.Native.Nat.{ℕ, ◌/◌, ◌%◌, ◌^◌}
use native.Mathlib.Nat.{eq-or-lt_of_le}
use native.Mathlib.Omega.{arith}
use lib.Dec.{T, leb, eqb}
use lib.Ieee.{Float, nan, inf, binary64, fits, of_fields, of_bits, to_bits}
use lib.Ieee.Bits.{of_bits-to_bits}
use lib.Ieee.Scale.{finite}
use Rattle.ieee.specs.Scale.{in_units, units_of_bits}
use Rattle.ieee.specs.Nearest.{units_of}
use Rattle.ieee.proofs.Patterns.{worth_fields}
use Rattle.float_error.specs.Units.{whole_units}
use Rattle.float_error.proofs.Values.{units_are}

-- a field of all ones is no number
no_number : (s : Bool) (b : Bool) → T (finite (cond b (inf s) nan)) → ⊥
no_number s true h = h
no_number s false h = h

all_ones : (s : Bool) (x t : ℕ) → x ≡ 2047 → T (finite (of_fields binary64 s x t)) → ⊥
unfolding of_fields
all_ones s x t e h = no_number s (eqb t 0) (subst (λ (y : ℕ). T (finite (of_fields binary64 s y t))) e h)

of_bits_lem : (b : ℕ) → T (finite (of_bits binary64 b)) → units_of (of_bits binary64 b) ≡ units_of_bits (b % 2 ^ 63)
unfolding of_bits
of_bits_lem b h =
    let s = leb (2 ^ 63) b in
    let x = b % 2 ^ 63 / 2 ^ 52 in
    let t = b % 2 ^ 52 in
    let digits : t ≡ b % 2 ^ 63 % 2 ^ 52 = omega arith in
    ⊎_elim
    (λ e. absurd (all_ones s x t e h))
    (λ l. units_are (record { is = worth_fields s x t l }) ∙ ap (in_units x) digits)
    (eq-or-lt_of_le {n = x} {m = 2047} (omega arith))

pub whole_units_lem : (x : Float) → T (fits binary64 x) → T (finite x) → whole_units x ≡ units_of x
whole_units_lem x f h = sym (of_bits_lem (to_bits binary64 x) (subst (λ (y : Float). T (finite y)) (sym (of_bits-to_bits binary64 x f)) h)) ∙ ap units_of (of_bits-to_bits binary64 x f)
