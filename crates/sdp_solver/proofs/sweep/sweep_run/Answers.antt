-- `sdp_solver::sweep::sweep_run` meets its contract, by what holds where nothing refuses it. Assumes nothing.
use mathlib.Core.Path.{sym}
use lib.Seq.{length-take-le}
use Rattle.run_contract.proofs.Accepting.{sweep_accepted}
use Rattle.sdp_solver.proofs.sweep.sweep_run.Goals as goal

pub slice_bounds-sweep_accepted-end-2 : goal.slice_bounds-sweep_accepted-end-2
slice_bounds-sweep_accepted-end-2 c = sym (length-take-le _ _ (sweep_accepted _ _ _ (sym c.in_ok-sweep_number.ensures)).factor_room)

pub sweep_accepted-requires : goal.sweep_accepted-requires
sweep_accepted-requires c =
    let s = sweep_accepted _ _ _ (sym c.in_ok-sweep_number.ensures) in
    (record { slices = s.slices; costs = s.costs; hall = s.hall }, s.running, s.size_is, s.rank_few, length-take-le _ _ s.factor_room)
