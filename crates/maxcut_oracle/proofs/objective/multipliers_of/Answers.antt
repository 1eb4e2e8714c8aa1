-- `maxcut_oracle::objective::multipliers_of` meets its contract. The first i multipliers are written. Assumes nothing.
use mathlib.Core.Path.{◌≡◌, ◌∙◌}
use native.Mathlib.Omega.{arith}
use lib.Ieee.{nan}
use Rattle.laws.proofs.Made.{tabulate_next, tabulate_all}
use Rattle.maxcut_oracle.proofs.ByRow.{by_row}
use Rattle.maxcut_oracle.proofs.objective.multipliers_of.Goals as goal

pub loop-i-preserved : goal.loop-i-preserved
loop-i-preserved c = rw c.multiplier_at.ensures (tabulate_next _ _ _ _ nan (omega arith) c.loop-i.invariant)

pub returns : goal.returns
returns c = let a = c.args in
    let e : c.loop-i.i ≡ a.m = omega arith in
    (rw (tabulate_all _ _ _ c.requires.2) at (rw e at c.loop-i.invariant)) ∙ by_row a.table.cols.now a.table.values.now a.table.starts.now a.factor.now a.rank a.m
