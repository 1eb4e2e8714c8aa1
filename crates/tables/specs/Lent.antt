-- What a call is lent, as the tables and lists that its definitions speak of.
use Rattle.std.specs.Prelude.{ℕ, ◌≤◌}
use Rattle.tables.specs.Table.{Table, table_of, Lent}
use Rattle.tables.specs.declared.lent.LentTable.{LentTable}
use Rattle.tables.specs.declared.lent.LentHall.{LentHall}
use Rattle.tables.specs.CostTable.{CostTable, cost_table}

-- the table in the first places of the slices, which are long enough
abbrev pub lent_table : LentTable → Table
lent_table t = table_of t.count t.rows.now t.cols.now t.values.now

-- the slices are long enough, unless the count is above its limit, which 13 refuses
abbrev pub LentWithin : ℕ → LentTable → Type 0
LentWithin capacity t = t.count ≤ capacity → Lent t.count t.rows.now t.cols.now t.values.now

-- (H, c)
abbrev pub costs_of : LentHall → CostTable
costs_of h = cost_table h.table.size h.table.count h.table.rows.now h.table.cols.now h.table.values.now h.c.now
