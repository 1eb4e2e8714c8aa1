-- What a table's slices hold where none of them is short. Assumes nothing.
use Prim.Native.Nat.{◌≤◌}
use mathlib.Core.Path.{◌≡◌}
use mathlib.Core.Bool.{false}
use lib.ListN.{length}
use borrow.Author.Tests.{le-ltb}
use Rattle.laws.proofs.Any.{any_head, any_rest}
use Rattle.tables.proofs.Checks.{long_enough}
use Rattle.limits.specs.Limits.{most_wagons, most_entries}
use Rattle.tables.specs.Table.{Lent}
use Rattle.tables.specs.Check.{short_table}
use Rattle.tables.specs.CostTable.{CostTable}
use Rattle.run_record.specs.Numbers.{table_short}

pub table_lent : (t : CostTable) → table_short t ≡ false → t.count ≤ most_entries → Lent t.count t.rows t.cols t.values
unfolding table_short short_table
table_lent t e l =
    let few = le-ltb most_entries t.count l in
    let s = any_head _ _ e in
    record {
      rows_there = long_enough (any_head _ _ s) few;
      cols_there = long_enough (any_head _ _ (any_rest _ _ s)) few;
      values_there = long_enough (any_head _ _ (any_rest _ _ (any_rest _ _ s))) few;
    }

pub costs_lent : (t : CostTable) → table_short t ≡ false → t.n ≤ most_wagons → t.n ≤ length t.c
unfolding table_short
costs_lent t e l = long_enough (any_head _ _ (any_rest _ _ e)) (le-ltb most_wagons t.n l)
