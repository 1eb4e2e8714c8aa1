-- Note 14 of a table: one step by rule 3 over the table of a call.
--     rule3_length, rule3_standing    of m rows
--     rule3_slice                     of the slice that a sweep is lent
-- Assumes nothing.
use mathlib.Core.Path.{◌≡◌, refl, sym, ◌∙◌, subst}
use mathlib.Core.Bool.{true, false}
use mathlib.Core.List.{List}
use Prim.Native.Nat.{ℕ, zero, suc, ◌*◌, ◌/◌, ◌%◌, ◌^◌, ◌≤◌, ◌<◌}
use native.Mathlib.Nat.{zero-lt-suc, le_trans, le_of_eq, mul-le-mul_right, mod-lt, div-add-mod', div-lt_iff_lt-mul}
use native.Mathlib.Omega.{arith}
use lib.Dec.{T, lit≤}
use lib.IntN.{ℤ, nat_abs}
use lib.Ieee.{Float, nan, binary64, fits, of_int}
use lib.Ieee.Fits.{div-fits}
use lib.ListN.{length, take, drop}
use lib.Seq.{get_or-take, length-take-le}
use Rattle.laws.specs.Rows.{row_of}
use Rattle.laws.proofs.Sums.{total_at}
use Rattle.laws.proofs.Made.{all_kept}
use Rattle.laws.proofs.Parts.{row_within, row_front}
use Rattle.ieee.specs.Floats.{at, zero64, eight64, eighth_of}
use Rattle.ieee.specs.Eighths.{negative}
use Rattle.ieee.proofs.Eighths.{eighth_exact}
use Rattle.limits.specs.Limits.{most_signs, most_sign_entries, most_sign_magnitude, most_rank}
use Rattle.tables.specs.Table.{Table}
use Rattle.tables.specs.Check.{Accepted}
use Rattle.prepared_table.specs.Work.{stays, sets_aside, prepared_rows, prepared_cols, prepared_values, work_starts}
use Rattle.prepared_table.proofs.Preparing.{length_work_rows, length_work_cols, work_shaped}
use Rattle.coordinate_sweep.specs.Sweep.{sweep_to}
use Rattle.step_rules.specs.Rule.{stepped, stepped_within}
use Rattle.step_rules.specs.declared.StepRule.TheVariants.{CoordNoStep}
use Rattle.row_length.specs.Length.{FiniteUpTo, AtMostTwo, UnitLength, SweepInput, rewrites}
use Rattle.float_error.proofs.Values.{Worth, worth_of, units_are, is_finite}
use Rattle.float_error.proofs.Bits.{whole_units_lem}
use Rattle.row_length.proofs.Theorem.{rewritten_length, standing_same, swept_length, swept_low}

-- ---- an eighth of a whole number, in units

eighth_fits : (v : ℤ) → T (fits binary64 (eighth_of v))
unfolding eighth_of
eighth_fits v = div-fits binary64 (of_int binary64 v) eight64

value_low : (v : ℤ) → nat_abs v ≤ most_sign_magnitude → FiniteUpTo (2 ^ 39 * 2 ^ 1074) (eighth_of v)
value_low v h =
    let w : Worth (eighth_of v) (negative v) (nat_abs v * 2 ^ 1071) = worth_of (eighth_of v) (negative v) (nat_abs v) 8 (2 ^ 1071) refl (eighth_exact v (le_trans h (lit≤ tt))) in
    record {
      held = eighth_fits v;
      is_finite = is_finite w;
      low = le_trans (le_of_eq (whole_units_lem (eighth_of v) (eighth_fits v) (is_finite w) ∙ units_are w)) (le_trans (mul-le-mul_right (2 ^ 1071) h) (lit≤ tt));
    }

-- ---- the table

rank_some : (k m rank : ℕ) → k < m * rank → 0 < rank
rank_some k m zero h = absurd (omega (arith, h))
rank_some k m (suc r) h = zero-lt-suc r

module _ (t : Table) (m rank : ℕ) (factor : List Float) (accepted : Accepted most_signs most_sign_entries most_sign_magnitude m t) (thin : rank ≤ most_rank)
    (size : length factor ≡ m * rank) (small : (k : ℕ) → k < length factor → AtMostTwo (at factor k)) where
  input : SweepInput (prepared_cols t) (prepared_values t) (work_starts t m) m rank factor
  unfolding prepared_values
  input = record {
    shaped = work_shaped t m factor rank accepted.in_range size;
    few = le_trans (le_of_eq (length_work_cols t)) (le_trans (length_work_rows t) accepted.entries);
    rank_limit = thin;
    values_low = all_kept (FiniteUpTo (2 ^ 39 * 2 ^ 1074)) (stays (sets_aside t) t.row t.column) (λ e. eighth_of (t.value e)) t.count nan
        (λ e h. value_low (t.value e) (le_trans (total_at t.count e (λ l. nat_abs (t.value l)) h) accepted.magnitude));
    factor_low = small;
  }

  pub rule3_length : (i : ℕ) → i < m → rewrites (prepared_cols t) (prepared_values t) (work_starts t m) rank factor i ≡ true
      → UnitLength (row_of rank (stepped CoordNoStep (prepared_rows t) (prepared_cols t) (prepared_values t) (work_starts t m) m rank factor) i)
  unfolding stepped
  rule3_length = rewritten_length input

  pub rule3_standing : (i : ℕ) → i < m → rewrites (prepared_cols t) (prepared_values t) (work_starts t m) rank factor i ≡ false
      → row_of rank (stepped CoordNoStep (prepared_rows t) (prepared_cols t) (prepared_values t) (work_starts t m) m rank factor) i ≡ row_of rank factor i
  unfolding stepped
  rule3_standing = standing_same input

  pub rule3_size : length (stepped CoordNoStep (prepared_rows t) (prepared_cols t) (prepared_values t) (work_starts t m) m rank factor) ≡ m * rank
  unfolding stepped
  rule3_size = swept_length input

  -- every number is finite and at most 2 in magnitude again, so that all this holds of the next sweep
  pub rule3_low : (k : ℕ) → k < m * rank → AtMostTwo (at (stepped CoordNoStep (prepared_rows t) (prepared_cols t) (prepared_values t) (work_starts t m) m rank factor) k)
  unfolding stepped
  rule3_low k h =
      let some : 0 < rank = rank_some k m rank h in
      subst (λ (l : ℕ). AtMostTwo (at (sweep_to (prepared_cols t) (prepared_values t) (work_starts t m) rank zero64 factor m) l)) (div-add-mod' k rank)
      (swept_low input (k / rank) (k % rank) ((div-lt_iff_lt-mul some).1 h) (mod-lt k some))

-- ---- the slice that a sweep is lent: m rows, and what lies past them

module _ (t : Table) (m rank : ℕ) (slice : List Float) (accepted : Accepted most_signs most_sign_entries most_sign_magnitude m t) (thin : rank ≤ most_rank)
    (long : m * rank ≤ length slice) (small : (k : ℕ) → k < m * rank → AtMostTwo (at slice k)) where
  abbrev rows : List Float
  rows = take (m * rank) slice

  size : length rows ≡ m * rank
  size = length-take-le (m * rank) slice long

  rows_small : (k : ℕ) → k < length rows → AtMostTwo (at rows k)
  rows_small k h = let l : k < m * rank = rw size at h in subst AtMostTwo (sym (get_or-take (m * rank) slice k nan l)) (small k l)

  front : (i : ℕ) → i < m
      → row_of rank (stepped_within CoordNoStep (prepared_rows t) (prepared_cols t) (prepared_values t) (work_starts t m) m rank slice) i
      ≡ row_of rank (stepped CoordNoStep (prepared_rows t) (prepared_cols t) (prepared_values t) (work_starts t m) m rank rows) i
  unfolding stepped_within stepped
  front i h =
      row_front rank (sweep_to (prepared_cols t) (prepared_values t) (work_starts t m) rank zero64 rows m) (drop (m * rank) slice) i
      (rw (rule3_size t m rank rows accepted thin size rows_small) (row_within i m rank h))

  pub rule3_slice : (i : ℕ) → i < m → rewrites (prepared_cols t) (prepared_values t) (work_starts t m) rank (take (m * rank) slice) i ≡ true
      → UnitLength (row_of rank (stepped_within CoordNoStep (prepared_rows t) (prepared_cols t) (prepared_values t) (work_starts t m) m rank slice) i)
  rule3_slice i h w = subst UnitLength (sym (front i h)) (rule3_length t m rank rows accepted thin size rows_small i h w)
