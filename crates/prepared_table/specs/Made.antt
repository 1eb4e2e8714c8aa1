-- A prepared table made in arrays of its own.
use Rattle.std.specs.Prelude.{ℕ, ◌+◌, ◌≡◌, ◌≤◌, take}
use Rattle.limits.specs.Limits.{most_signs, most_sign_entries}
use Rattle.tables.specs.Table.{Table}
use Rattle.prepared_table.specs.Work.{prepared_rows, prepared_cols, prepared_values, work_starts}
use Rattle.prepared_table.specs.declared.made.PreparedTable.{PreparedTable}

-- the arrays hold the prepared table of the table t of m rows, in their first places
pub record MadeOf (t : Table) (m : ℕ) (s : PreparedTable) : Type 0 where
  pub fits : s.count ≤ most_sign_entries
  pub size_fits : s.size ≤ most_signs
  pub size_is : s.size ≡ m
  pub rows_are : take s.count s.rows ≡ prepared_rows t
  pub cols_are : take s.count s.cols ≡ prepared_cols t
  pub values_are : take s.count s.values ≡ prepared_values t
  pub starts_are : take (s.size + 1) s.starts ≡ work_starts t m
