-- What `PreparedTable::make` leaves is the prepared table of the table given.
--     made                       of what `separate_diagonal` wrote
--     made_shaped, made_fits     what a sweep and the objective ask of it
-- Assumes nothing.
use Prim.Native.Nat.{ℕ, ◌+◌, ◌*◌, ◌≤◌}
use mathlib.Core.List.{List}
use mathlib.Core.Path.{◌≡◌, refl, sym, ◌∙◌}
use native.Mathlib.Omega.{arith}
use lib.Ieee.{Float}
use lib.ListN.{length, take}
use Rattle.laws.specs.Lists.{over}
use Rattle.limits.specs.Limits.{most_signs, most_sign_entries}
use Rattle.factor.specs.Shapes.{Shaped, ObjFits}
use Rattle.tables.specs.Table.{Table, InRange}
use Rattle.prepared_table.specs.Work.{prepared_rows, prepared_cols, prepared_values, work_starts}
use Rattle.prepared_table.specs.declared.made.PreparedTable.{PreparedTable}
use Rattle.prepared_table.specs.Made.{MadeOf}
use Rattle.prepared_table.proofs.Preparing.{length_work_rows, length_work_cols, length_work_values, length_work_starts, work_front, work_shaped, work_fits}

pub made : (t : Table) (m : ℕ) {stay : ℕ} (rows cols starts : List ℕ) (values : List Float) {rows' cols' starts' : List ℕ} {values' : List Float} → (few : t.count ≤ most_sign_entries) (small : m ≤ most_signs)
    → (within : (stay ≤ most_sign_entries) × (m ≤ most_signs)) → stay ≡ length (prepared_rows t) → rows' ≡ over (prepared_rows t) rows → cols' ≡ over (prepared_cols t) cols → values' ≡ over (prepared_values t) values → starts' ≡ over (work_starts t m) starts
    → MadeOf t m (record { size = m; count = stay; rows = rows'; cols = cols'; values = values'; starts = starts'; fits = within })
made t m {stay} rows cols starts values few small within e r k v s =
    record {
      fits = omega (arith, length_work_rows t, e, few);
      size_fits = small;
      size_is = refl;
      rows_are = rw r (work_front (prepared_rows t) rows stay (sym e));
      cols_are = rw k (work_front (prepared_cols t) cols stay (length_work_cols t ∙ sym e));
      values_are = rw v (work_front (prepared_values t) values stay (length_work_values t ∙ sym e));
      starts_are = rw s (work_front (work_starts t m) starts (m + 1) (length_work_starts t m));
    }

module _ {t : Table} {m : ℕ} {s : PreparedTable} (k : MadeOf t m s) (rank : ℕ) (all : InRange m t) where
  pub made_shaped : (factor : List Float) → length factor ≡ m * rank → Shaped (take s.count s.cols) (take s.count s.values) (take (s.size + 1) s.starts) factor m rank
  made_shaped factor size = rw (k.cols_are, k.values_are, k.starts_are) (work_shaped t m factor rank all size)

  pub made_fits : ObjFits (take s.count s.rows) (take s.count s.cols) (take s.count s.values) rank (m * rank)
  made_fits = rw (k.rows_are, k.cols_are, k.values_are) (work_fits t m rank all)
