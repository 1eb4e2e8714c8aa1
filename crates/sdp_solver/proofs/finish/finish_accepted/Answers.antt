-- `sdp_solver::finish::finish_accepted` meets its contract, by what `finalize` ensures of the workspace's front. Assumes nothing.
use native.Mathlib.Omega.{arith}
use lib.Seq.{length-take-le}
use Rattle.laws.proofs.Integer.{held}
use Rattle.finalize.proofs.Assembled.{cut_fits}
use Rattle.limits.specs.Limits.{search_workspace}
use Rattle.tables.specs.Lent.{costs_of}
use Rattle.tables.proofs.Checks.{hall_passes}
use Rattle.run_contract.proofs.Accepting.{finish_accepted}
use Rattle.sdp_solver.proofs.Finishing.{finishes}
use Rattle.sdp_solver.proofs.finish.finish_accepted.Goals as goal

pub judged_hall-requires : goal.judged_hall-requires
judged_hall-requires c = let u = finish_accepted _ _ _ _ _ c.requires in record { lent = u.slices; costs_there = u.costs; judged = hall_passes u.hall }

pub finalize-figures-requires : goal.finalize-figures-requires
finalize-figures-requires c =
    let u = finish_accepted _ _ _ _ _ c.requires in
    let long = length-take-le search_workspace c.args.workspace.now u.fits.space_room in
    rw c.judged_hall.ensures.0 (cut_fits u.fits u.fits.factor_room (omega (arith, long)))

pub returns : goal.returns
returns c =
    let a = c.args in
    let g = c.finalize-figures in
    let x = g.result in
    let of = c.judged_hall.ensures in
    let figures = rw (of.0, of.1, of.2) at g.ensures in
    rw (held x.floor c.struct_told-1.given.1.1.0.1, held x.chosen.rounded_cost c.struct_told-1.given.1.1.1.0.1.1.0.1, held x.chosen.cost c.struct_told-1.given.1.1.1.0.1.1.1.0.1)
    (finishes a.run (costs_of a.hall) a.width a.draws.count a.draws.numbers.now a.factor.now a.b.now a.dual_variables.now a.workspace.now c.requires figures
    g.new.workspace g.auto.workspace)
