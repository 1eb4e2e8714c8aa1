-- `maxcut_oracle::objective::multipliers_of` meets its contract. The first i multipliers are written. Assumes nothing.
use mathlib.Core.Path.{◌≡◌}
use Rattle.laws.specs.Lists.{over, tabulate}
use Rattle.maxcut_oracle.proofs.ByRow.{at_row}
use Rattle.maxcut_oracle.proofs.objective.multipliers_of.Given as goal

abbrev pub invariant-loop-i : goal.invariant-loop-i
invariant-loop-i l = l.dual ≡ over (tabulate (at_row l.table.cols.now l.table.values.now l.table.starts.now l.factor l.rank) l.i) l.initial.dual
