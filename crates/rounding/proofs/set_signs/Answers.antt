-- `rounding::set_signs` meets its contract. The first i signs are written. Assumes nothing.
use native.Mathlib.Omega.{arith}
use Rattle.laws.proofs.Made.{tabulate_next}
use Rattle.rounding.proofs.set_signs.Goals as goal

pub loop-i-preserved : goal.loop-i-preserved
loop-i-preserved c = rw (c.sign_byte.ensures, c.dot.ensures, c.row.ensures.result_value) (tabulate_next _ _ _ _ 0 (omega arith) c.loop-i.invariant)
