-- The tables of all runs as a turn is lent them.
use Rattle.std.specs.Prelude.{ℕ, List, drop}
use Rattle.tables.specs.CostTable.{CostTable, cost_table}
use Rattle.several_runs.specs.Turn.{Tables, tables_of}
use Rattle.several_runs.specs.declared.HallSize.{HallSize}
use Rattle.several_runs.specs.declared.LentRuns.{LentRuns}

abbrev pub lent_tables : List HallSize → LentRuns → Tables
lent_tables halls t = tables_of halls t.rows.now t.cols.now t.values.now t.c.now

-- (H, c) of a run whose entries and costs start at these places
abbrev pub lent_from : HallSize → ℕ → ℕ → LentRuns → CostTable
lent_from size entries costs t = cost_table size.n size.count (drop entries t.rows.now) (drop entries t.cols.now) (drop entries t.values.now) (drop costs t.c.now)
