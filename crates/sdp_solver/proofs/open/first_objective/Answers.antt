-- `sdp_solver::open::first_objective` meets its contract, on the table that `call_work` made. Assumes nothing.
use Prim.Native.Nat.{◌+◌, ◌*◌}
use mathlib.Core.Path.{◌∙◌}
use Rattle.factor.specs.Shapes.{ObjFits}
use Rattle.prepared_table.proofs.MadeTables.{made_fits}
use Rattle.maxcut_oracle.specs.Table.{work_objective}
use Rattle.sdp_solver.proofs.Prepared.{usable, in_range}
use Rattle.sdp_solver.proofs.open.first_objective.Goals as goal

pub obj-requires : goal.obj-requires
obj-requires c =
    let w = c.table.ensures in
    let t = c.table.result in
    let f : ObjFits t.rows.now t.cols.now t.values.now c.args.rank ((c.args.hall.n + 1) * c.args.rank) =
    rw (w.rows_value, w.cols_value, w.values_value) (made_fits c.call_work.ensures c.args.rank (in_range (usable c.args.hall))) in
    record { rows_len = (f.paired, f.valued); columns_within = (λ e l. rw c.requires (f.rows_in e l)); columns_within_2 = (λ e l. rw c.requires (f.cols_in e l)) }

pub returns : goal.returns
unfolding work_objective
returns c =
    let w = c.table.ensures in
    let k = c.call_work.ensures in
    rw (w.rows_value ∙ k.rows_are, w.cols_value ∙ k.cols_are, w.values_value ∙ k.values_are) at c.obj.ensures
