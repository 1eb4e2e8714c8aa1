-- The prepared table is what the sweeps and the objective ask for, and lies at the front of the slices that `separate_diagonal` writes.
--     work_shaped, work_fits     what a sweep and the objective ask
--     work_front                 the entries that stay, cut from the front of their slice
-- Assumes nothing.
use mathlib.Core.Path.{◌≡◌, refl, sym, ◌∙◌}
use mathlib.Core.Bool.{Bool, true, false}
use mathlib.Core.List.{List}
use Prim.Native.Nat.{ℕ, ◌+◌, ◌*◌, ◌≤◌, ◌<◌}
use native.Mathlib.Omega.{arith}
use lib.Ieee.{Float}
use lib.ListN.{length, get_or, take, replicate, length-set, length-replicate}
use lib.Seq.{take_at}
use Rattle.laws.specs.Lists.{over, put_if}
use Rattle.laws.proofs.UpTo.{up_to_keeps}
use Rattle.laws.proofs.Parts.{row_within}
use Rattle.laws.proofs.Made.{length_tabulate, get_d_tabulate, all_kept, kept_lengths, length_kept}
use Rattle.ieee.specs.Floats.{zero64, eighth_of}
use Rattle.factor.specs.Shapes.{Shaped, ObjFits}
use Rattle.tables.specs.Table.{Table, InRange}
use Rattle.prepared_table.specs.Work.{on_diagonal, stays, sets_aside, prepared_rows, prepared_cols, prepared_values, row_start, work_starts, diagonal_turn, diagonal_of}
use Rattle.prepared_table.proofs.Starting.{start_le, start_rise}

module _ (t : Table) where
  pub length_work_rows : length (prepared_rows t) ≤ t.count
  unfolding prepared_rows
  length_work_rows = length_kept (stays (sets_aside t) t.row t.column) t.row t.count

  pub length_work_cols : length (prepared_cols t) ≡ length (prepared_rows t)
  unfolding prepared_rows prepared_cols
  length_work_cols = kept_lengths (stays (sets_aside t) t.row t.column) t.column t.row t.count

  pub length_work_values : length (prepared_values t) ≡ length (prepared_rows t)
  unfolding prepared_rows prepared_values
  length_work_values =
      kept_lengths (stays (sets_aside t) t.row t.column) (λ e. eighth_of (t.value e)) t.row t.count

  module _ (m : ℕ) where
    pub work_rows_below : InRange m t → (e : ℕ) → e < length (prepared_rows t) → get_or (prepared_rows t) e 0 < m
    unfolding prepared_rows
    work_rows_below all =
        all_kept (λ (r : ℕ). r < m) (stays (sets_aside t) t.row t.column) t.row t.count 0 all.rows_in

    pub work_cols_below : InRange m t → (e : ℕ) → e < length (prepared_cols t) → get_or (prepared_cols t) e 0 < m
    unfolding prepared_cols
    work_cols_below all =
        all_kept (λ (r : ℕ). r < m) (stays (sets_aside t) t.row t.column) t.column t.count 0 all.cols_in

    -- the starts, read
    start_at_lem : (i : ℕ) → i < m + 1 → get_or (work_starts t m) i 0 ≡ row_start (prepared_rows t) i
    unfolding work_starts
    start_at_lem i h = get_d_tabulate (row_start (prepared_rows t)) (m + 1) i 0 h

    pub length_work_starts : length (work_starts t m) ≡ m + 1
    unfolding work_starts
    length_work_starts = length_tabulate (row_start (prepared_rows t)) (m + 1)

    pub work_shaped : (factor : List Float) (rank : ℕ) → InRange m t → length factor ≡ m * rank
        → Shaped (prepared_cols t) (prepared_values t) (work_starts t m) factor m rank
    work_shaped factor rank all size =
        record {
          paired = length_work_cols ∙ sym length_work_values;
          started = omega (arith, length_work_starts);
          rising = λ i h. rw (start_at_lem i (omega arith), start_at_lem (i + 1) (omega arith)) (start_rise (prepared_rows t) i);
          ended = λ i h. rw (start_at_lem (i + 1) (omega arith)) (omega (arith, start_le (prepared_rows t) (i + 1), length_work_cols));
          columns = work_cols_below all;
          whole = size;
        }

    pub work_fits : (rank : ℕ) → InRange m t → ObjFits (prepared_rows t) (prepared_cols t) (prepared_values t) rank (m * rank)
    work_fits rank all =
        record {
          paired = sym length_work_cols;
          valued = sym length_work_values;
          rows_in = λ e l. row_within (get_or (prepared_rows t) e 0) m rank (work_rows_below all e l);
          cols_in = λ e l. row_within (get_or (prepared_cols t) e 0) m rank (work_cols_below all e l);
        }

    pub length_diagonal_of : length (diagonal_of t m) ≡ m
    unfolding diagonal_of
    length_diagonal_of =
        up_to_keeps (λ (d : List Float). length d ≡ m) (diagonal_turn t) t.count (replicate m zero64)
        (λ e d h. put (on_diagonal t e) (t.row e) (eighth_of (t.value e)) d ∙ h) (length-replicate m zero64)
      where
        put : (b : Bool) (n : ℕ) (a : Float) (xs : List Float) → length (put_if b n a xs) ≡ length xs
        put true n a xs = simp length-set
        put false n a xs = refl

-- a list written over the front of a slice, cut from it
pub work_front : {A : Type 0} (front xs : List A) (n : ℕ) → length front ≡ n → take n (over front xs) ≡ front
work_front front xs n e = take_at front _ n e
