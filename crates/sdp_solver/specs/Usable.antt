-- What the accepted part of a call may take of its table: slices that hold it, and costs that 01's numbers 13 to 16 don't refuse.
use Rattle.std.specs.Prelude.{◌≤◌, length}
use Rattle.limits.specs.Limits.{most_wagons, most_entries, most_magnitude}
use Rattle.tables.specs.Table.{Lent}
use Rattle.tables.specs.Check.{Hall}
use Rattle.tables.specs.CostTable.{CostTable, cost_table, quadratic, linear}
use Rattle.tables.specs.declared.judged.JudgedHall.{JudgedHall}

pub record Usable (t : CostTable) : Type 0 where
  pub slices : Lent t.count t.rows t.cols t.values
  pub costs : t.n ≤ length t.c
  pub hall : Hall most_wagons most_entries most_magnitude t.n (quadratic t) (linear t)

-- (H, c) as it is once judged
abbrev pub costs_in : JudgedHall → CostTable
costs_in h = cost_table h.n h.table.count h.table.rows.now h.table.cols.now h.table.values.now h.c.now
