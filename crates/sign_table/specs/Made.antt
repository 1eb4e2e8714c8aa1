-- A sign table made in arrays of its own.
use Rattle.std.specs.Prelude.{ℕ, ℤ, ◌≡◌, ◌≤◌, take}
use Rattle.limits.specs.Limits.{most_sign_entries}
use Rattle.tables.specs.Table.{Table, table_of}
use Rattle.sign_table.specs.SignTable.{sign_table}
use Rattle.sign_table.specs.declared.made.SignTable.{SignTable}

-- the table in the first places of the arrays
abbrev pub made_table : SignTable → Table
made_table s = table_of s.count (take s.count s.rows) (take s.count s.cols) (take s.count s.values)

-- the arrays hold the sign table of n wagons, of the table h of quadratic costs and the linear costs c
pub record TableMade (n : ℕ) (h : Table) (c : ℕ → ℤ) (s : SignTable) : Type 0 where
  pub fits : s.count ≤ most_sign_entries
  pub is : made_table s ≡ sign_table n h c
