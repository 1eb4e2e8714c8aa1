-- `sdp_solver::sweep::sweep_accepted` meets its contract, on the table that `call_work` made. Assumes nothing.
use Prim.Native.Nat.{◌*◌}
use mathlib.Core.Path.{ap, ◌∙◌}
use native.Mathlib.Omega.{arith}
use Rattle.tables.specs.Lent.{costs_of}
use Rattle.tables.proofs.Checks.{hall_passes}
use Rattle.prepared_table.proofs.MadeTables.{made_fits, made_shaped}
use Rattle.sdp_solver.proofs.Prepared.{in_range, made_work}
use Rattle.sdp_solver.proofs.sweep.sweep_accepted.Goals as goal

pub judged_hall-requires : goal.judged_hall-requires
judged_hall-requires c = let u = c.requires.0 in record { lent = u.slices; costs_there = u.costs; judged = hall_passes u.hall }

pub sweep_work-requires : goal.sweep_work-requires
sweep_work-requires c =
    let a = c.args in
    let of = c.judged_hall.ensures in
    let k = rw (of.0, of.1, of.2) at c.call_work.ensures in
    let w = c.table.ensures in
    let r = in_range c.requires.0 in
    let size = c.requires.2 in
    record {
      running = (c.requires.1, omega (arith, size, c.requires.0.hall.wagons), omega (arith, size), c.requires.3);
      shaped = (
        rw (size, w.cols_value, w.values_value, w.starts_value) (made_shaped k a.run.rank r a.factor.now (c.requires.4 ∙ ap (λ m. m * a.run.rank) size)),
        rw (size, w.rows_value, w.cols_value, w.values_value) (made_fits k a.run.rank r),
      );
    }

pub returns : goal.returns
returns c =
    let w = c.table.ensures in
    let of = c.judged_hall.ensures in
    let k = rw (of.0, of.1, of.2) at c.call_work.ensures in
    rw (w.rows_value, w.cols_value, w.values_value, w.starts_value, made_work (costs_of c.args.hall) k) at c.sweep_work.ensures
