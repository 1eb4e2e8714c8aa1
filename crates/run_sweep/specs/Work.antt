-- The table of a call as its sweeps take it: the sign table of (H, c), its diagonal set aside (000, `separate_diagonal`).
use Rattle.std.specs.Prelude.{ℕ, ◌+◌, List, Float}
use Rattle.tables.specs.Table.{Table}
use Rattle.factor.specs.declared.table.Prepared.{Prepared}
use Rattle.sign_table.specs.SignTable.{sign_table}
use Rattle.prepared_table.specs.Work.{prepared_rows, prepared_cols, prepared_values, work_starts}
use Rattle.tables.specs.CostTable.{CostTable, quadratic, linear}

-- rows, columns and doubles of its entries, and where each row starts
pub record Work : Type 0 where
  pub rows : List ℕ
  pub cols : List ℕ
  pub values : List Float
  pub starts : List ℕ

abbrev pub work : List ℕ → List ℕ → List Float → List ℕ → Work
work rows cols values starts = record { rows = rows; cols = cols; values = values; starts = starts }

-- of a prepared table as it is lent
abbrev pub work_in : Prepared → Work
work_in t = work t.rows.now t.cols.now t.values.now t.starts.now

-- of a sign table of m signs
unfoldable pub work_of : Table → ℕ → Work
work_of q m = work (prepared_rows q) (prepared_cols q) (prepared_values q) (work_starts q m)

-- of (H, c)
abbrev pub sign_table_of : CostTable → Table
sign_table_of t = sign_table t.n (quadratic t) (linear t)

unfoldable pub call_work : CostTable → Work
call_work t = work_of (sign_table_of t) (t.n + 1)
