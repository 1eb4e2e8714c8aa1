-- `factor_calls::whole::whole_multipliers` meets its contract. The first i elements are written, and `from` is where row i starts. Assumes nothing.
use mathlib.Core.Path.{◌≡◌, refl}
use native.Mathlib.Omega.{arith}
use lib.Ieee.{nan}
use Rattle.laws.specs.Lists.{tabulate}
use Rattle.laws.proofs.Made.{tabulate_next, tabulate_all}
use Rattle.factor_calls.specs.Equation8.{multipliers_by}
use Rattle.sign_table.proofs.Cursor.{at_start}
use Rattle.factor_calls.proofs.whole.whole_multipliers.Goals as goal

pub loop-i-init : goal.loop-i-init
unfolding tabulate
loop-i-init c = (refl, at_start _)

pub loop-i-preserved : goal.loop-i-preserved
loop-i-preserved c = (rw (c.value_of.ensures, c.whole_row-from.ensures.sums_after, c.row.ensures.result_value) (tabulate_next _ _ _ _ nan (omega arith) c.loop-i.invariant.0), c.whole_row-from.ensures.at)

pub returns : goal.returns
unfolding multipliers_by
returns c = let e : c.loop-i.i ≡ c.args.qv.m = omega arith in rw (tabulate_all _ _ _ c.requires.1) at (rw e at c.loop-i.invariant.0)
