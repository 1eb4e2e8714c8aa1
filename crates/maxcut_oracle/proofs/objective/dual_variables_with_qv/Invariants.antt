-- `maxcut_oracle::objective::dual_variables_with_qv` meets its contract. The first i elements are written. Assumes nothing.
use mathlib.Core.Path.{◌≡◌}
use Rattle.laws.specs.Lists.{over, tabulate}
use Rattle.maxcut_oracle.specs.Objective.{row_dot}
use Rattle.maxcut_oracle.proofs.objective.dual_variables_with_qv.Given as goal

abbrev pub invariant-loop-i : goal.invariant-loop-i
invariant-loop-i l = l.dual ≡ over (tabulate (row_dot l.product l.factor l.rank) l.i) l.initial.dual
