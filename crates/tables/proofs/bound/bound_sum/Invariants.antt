-- `tables::bound::bound_sum` meets its contract.
use Rattle.tables.specs.Bound.{bound_sum}
use mathlib.Core.Path.{◌≡◌}
use Rattle.tables.specs.Entries.{listed}
use Rattle.tables.proofs.bound.bound_sum.Given as goal

abbrev pub invariant-loop-k : goal.invariant-loop-k
invariant-loop-k l = l.bound ≡ bound_sum (listed l.table) l.k
