-- Note 14: a row that a sweep under rule 3 rewrites has a squared length that differs from 1 by at most 2 ^ -40.
--     rewritten_length, standing_same, swept_low
-- Assumes nothing.
use mathlib.Core.Path.{◌≡◌, refl, sym, ap, ◌∙◌, subst}
use mathlib.Core.Bool.{Bool, true, false}
use mathlib.Core.List.{List}
use Prim.Native.Nat.{ℕ, ◌+◌, ◌*◌, ◌^◌, ◌≤◌, ◌<◌}
use native.Mathlib.Nat.{le_refl, le_trans, le_of_eq, mul-add, le_of_mul-le-mul_left}
use lib.Arith.{digits_lt}
use lib.Dec.{T, lit≤, lit<}
use lib.Ieee.{Float, nan, binary64, fits}
use lib.ListN.{length}
use Rattle.laws.specs.Sum.{total}
use Rattle.laws.specs.Rows.{row_of}
use Rattle.laws.proofs.Totals.{total_ext}
use Rattle.laws.proofs.Parts.{length_row_of, row_within}
use Rattle.ieee.specs.Floats.{at, zero64}
use Rattle.coordinate_sweep.specs.Sweep.{sweep_to}
use Rattle.float_error.specs.Units.{whole_units}
use Rattle.row_length.specs.Length.{FiniteUpTo, AtMostTwo, squared_length, allowed, UnitLength, SweepInput, rewrites}
use Rattle.float_error.proofs.Values.{AtMost, own_units, sign_of, is_finite}
use Rattle.row_length.proofs.Norm.{square_at}
use Rattle.row_length.proofs.Row.{Done}
use Rattle.row_length.proofs.Rows.{row_element}
use Rattle.row_length.proofs.Sweep.{Bounded, sweep_bounded, sweep_done, sweep_standing}
use Rattle.float_error.proofs.Bits.{whole_units_lem}

within : (B : ℕ) (x : Float) → FiniteUpTo B x → AtMost B x
within B x f = record { sign = sign_of x; worth = own_units x f.held f.is_finite; low = le_trans (le_of_eq (sym (whole_units_lem x f.held f.is_finite))) f.low }

-- from the proof's words to the specification's
by_bits : (row : List Float) → Done row → squared_length row ≡ total (length row) (square_at row)
unfolding squared_length
by_bits row d =
    total_ext (length row) (λ j. whole_units (at row j) * whole_units (at row j)) (square_at row)
    (λ j h. ap (λ (u : ℕ). u * u) (whole_units_lem (at row j) (d.held j h) (d.in_reach j h)))

done_length : (row : List Float) → Done row → UnitLength row
done_length row d = record {
  all_finite = d.in_reach;
  most = rw (by_bits row d) (le_of_mul-le-mul_left {k = 2 ^ 40} (le_trans d.unit.most (lit≤ tt)) (lit< tt));
  least = rw (by_bits row d) (le_of_mul-le-mul_left {k = 2 ^ 40} (le_trans d.unit.least (le_of_eq (sym (mul-add (2 ^ 40) _ allowed)))) (lit< tt));
}

module _ {cols : List ℕ} {values : List Float} {starts : List ℕ} {m rank : ℕ} {factor : List Float} (s : SweepInput cols values starts m rank factor) where
  start : Bounded cols values starts m rank factor
  start = record {
    shaped = s.shaped;
    small = λ k j l o. within (2 * 2 ^ 1074) (at factor (k * rank + j)) (s.factor_low (k * rank + j) (rw s.shaped.whole (digits_lt l o)));
  }

  few : length cols ≤ 2 ^ 16
  few = le_trans s.few (lit≤ tt)

  values_within : (e : ℕ) → e < length values → AtMost (2 ^ 39 * 2 ^ 1074) (at values e)
  values_within e l = within (2 ^ 39 * 2 ^ 1074) (at values e) (s.values_low e l)

  -- a row that is rewritten
  pub rewritten_length : (i : ℕ) → i < m → rewrites cols values starts rank factor i ≡ true → UnitLength (row_of rank (sweep_to cols values starts rank zero64 factor m) i)
  rewritten_length i h w =
      done_length (row_of rank (sweep_to cols values starts rank zero64 factor m) i)
      (sweep_done cols values starts m rank few s.rank_limit values_within factor start i h w)

  -- a row that is left standing is as it was
  pub standing_same : (i : ℕ) → i < m → rewrites cols values starts rank factor i ≡ false → row_of rank (sweep_to cols values starts rank zero64 factor m) i ≡ row_of rank factor i
  standing_same i h w = sweep_standing cols values starts m rank few s.rank_limit values_within factor start i h w

  pub swept_length : length (sweep_to cols values starts rank zero64 factor m) ≡ m * rank
  swept_length = (sweep_bounded cols values starts m rank few s.rank_limit values_within factor start m (le_refl m)).shaped.whole

  -- and every number is finite and at most 2 in magnitude again
  abbrev swept : List Float
  swept = sweep_to cols values starts rank zero64 factor m

  element : (k j : ℕ) → k < m → j < rank → j < length (row_of rank swept k)
  element k j l o = rw (length_row_of rank k swept (rw swept_length (row_within k m rank l))) o

  held_at_lem : (k j : ℕ) → k < m → j < rank → (b : Bool) → rewrites cols values starts rank factor k ≡ b → T (fits binary64 (at swept (k * rank + j)))
  held_at_lem k j l o true w =
      subst (λ (x : Float). T (fits binary64 x)) (row_element rank swept k j nan o)
      ((sweep_done cols values starts m rank few s.rank_limit values_within factor start k l w).held j (element k j l o))
  held_at_lem k j l o false w =
      subst (λ (x : Float). T (fits binary64 x))
      (sym (row_element rank factor k j nan o) ∙ ap (λ (row : List Float). at row j) (sym (standing_same k l w)) ∙ row_element rank swept k j nan o)
      (s.factor_low (k * rank + j) (rw s.shaped.whole (digits_lt l o))).held

  pub swept_low : (k j : ℕ) → k < m → j < rank → AtMostTwo (at swept (k * rank + j))
  swept_low k j l o =
      let a = (sweep_bounded cols values starts m rank few s.rank_limit values_within factor start m (le_refl m)).small k j l o in
      let f = held_at_lem k j l o (rewrites cols values starts rank factor k) refl in
      record { held = f; is_finite = is_finite a.worth; low = le_trans (le_of_eq (whole_units_lem (at swept (k * rank + j)) f (is_finite a.worth))) a.low }
