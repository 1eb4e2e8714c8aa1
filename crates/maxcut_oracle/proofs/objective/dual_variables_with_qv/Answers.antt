-- `maxcut_oracle::objective::dual_variables_with_qv` meets its contract. The first i elements are written. Assumes nothing.
use native.Mathlib.Omega.{arith}
use lib.Ieee.{nan}
use Rattle.laws.proofs.Made.{tabulate_next}
use Rattle.maxcut_oracle.proofs.objective.dual_variables_with_qv.Goals as goal

pub loop-i-preserved : goal.loop-i-preserved
loop-i-preserved c = rw (c.dot.ensures, c.row.ensures.result_value, c.row-in-loop-i.ensures.result_value) (tabulate_next _ _ _ _ nan (omega arith) c.loop-i.invariant)
