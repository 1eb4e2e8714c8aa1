-- `factor::columns::put_columns` meets its contract. The first j columns are written. Assumes nothing.
use native.Mathlib.Omega.{arith}
use lib.Ieee.{nan}
use Rattle.laws.proofs.Made.{tabulate_next}
use Rattle.factor.proofs.columns.put_columns.Goals as goal

pub loop-j-preserved : goal.loop-j-preserved
loop-j-preserved g c = rw c.column.ensures (tabulate_next _ _ _ _ nan (omega arith) c.loop-j.invariant)
