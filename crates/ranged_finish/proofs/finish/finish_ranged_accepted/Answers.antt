-- `ranged_finish::finish::finish_ranged_accepted` meets its contract: the finish on the high table, then the figures. Assumes nothing.
use Prim.Native.Nat.{◌≤◌, ◌^◌}
use mathlib.Core.Path.{sym, subst}
use native.Mathlib.Omega.{arith}
use Rattle.laws.specs.Lists.{elem_z}
use Rattle.tables.specs.Table.{Table}
use Rattle.tables.specs.Check.{hall_magnitude}
use Rattle.tables.proofs.Checks.{hall_passes}
use Rattle.ranged_finish.proofs.Deciding.{finish_ok}
use Rattle.ranged_finish.proofs.Theorems.{ranged_finishable}
use Rattle.ranged_finish.proofs.finish.finish_ranged_accepted.Goals as goal

pub finish_accepted-result-requires : goal.finish_accepted-result-requires
finish_accepted-result-requires c = rw c.high_hall.ensures (finish_ok _ _ _ _ _ c.requires)

pub eval_qubo_objective-least-requires : goal.eval_qubo_objective-least-requires
eval_qubo_objective-least-requires c =
    let u = ranged_finishable _ _ _ _ _ c.requires in
    (u.low.costs, omega (arith, u.high.fits.b_room, c.finish_accepted-result.auto.b), rw c.entries-low_table.ensures u.low.hall.in_range, subst (λ (t : Table). hall_magnitude c.args.ranged.n t (elem_z c.args.ranged.low_c.now) ≤ 2 ^ 58) (sym c.entries-low_table.ensures) (omega (arith, u.low.hall.magnitude)))

pub eval_qubo_objective-most-requires : goal.eval_qubo_objective-most-requires
eval_qubo_objective-most-requires c =
    let u = ranged_finishable _ _ _ _ _ c.requires in
    (u.high.costs, omega (arith, u.high.fits.b_room, c.finish_accepted-result.auto.b), rw c.entries-high_table.ensures u.high.hall.in_range, subst (λ (t : Table). hall_magnitude c.args.ranged.n t (elem_z c.args.ranged.high_c.now) ≤ 2 ^ 58) (sym c.entries-high_table.ensures) (omega (arith, u.high.hall.magnitude)))

pub invariant_of-low_hall : goal.invariant_of-low_hall
invariant_of-low_hall c = let u = ranged_finishable _ _ _ _ _ c.requires in record { costs_there = u.low.costs; judged = rw c.entries-low_table.ensures (hall_passes u.low.hall) }
