-- `prepared_table::separate_diagonal` meets its contract. By what its callees ensure. The rows that are kept are the first of the slice that they were put in. Assumes nothing.
use borrow.Author.Rules.{rules}
use mathlib.Core.Path.{sym}
use native.Mathlib.Omega.{arith}
use lib.Seq.{length-take-le}
use Rattle.ieee.specs.Floats.{eighth_of}
use Rattle.laws.proofs.Made.{length_kept}
use Rattle.laws.specs.Lists.{elem, elem_z, kept}
use Rattle.prepared_table.specs.Work.{stays, prepared_rows, prepared_cols, prepared_values, work_starts}
use Rattle.prepared_table.proofs.Preparing.{work_front}
use Rattle.prepared_table.proofs.separate_diagonal.Goals as goal

pub slice_bounds-set_starts-end : goal.slice_bounds-set_starts-end
slice_bounds-set_starts-end c = let a = c.args in omega (arith, length_kept (stays c.sets_aside-aside.result (elem a.table.rows.now) (elem a.table.cols.now)) (elem a.table.rows.now) a.table.count, (c.keep-stay.ensures (elem a.table.rows.now) (λ e x h is. search rules)).0)

pub slice_bounds-set_starts-end-2 : goal.slice_bounds-set_starts-end-2
slice_bounds-set_starts-end-2 c = let a = c.args in sym (length-take-le _ _ (omega (arith, length_kept (stays c.sets_aside-aside.result (elem a.table.rows.now) (elem a.table.cols.now)) (elem a.table.rows.now) a.table.count, (c.keep-stay.ensures (elem a.table.rows.now) (λ e x h is. search rules)).0)))

pub returns : goal.returns
unfolding prepared_rows prepared_cols prepared_values work_starts
returns c =
    let a = c.args in
    let rows = c.keep-stay.ensures (elem a.table.rows.now) (λ e x h is. search rules) in
    let cols = c.keep.ensures (elem a.table.cols.now) (λ e x h is. search rules) in
    let values = c.keep-2.ensures (λ e. eighth_of (elem_z a.table.values.now e)) (λ e x h is. search rules) in record {
      value = rw c.sets_aside-aside.ensures at rows.0;
      work_rows_after = rw c.sets_aside-aside.ensures at rows.1;
      work_cols_after = rw c.sets_aside-aside.ensures at cols.1;
      work_values_after = rw c.sets_aside-aside.ensures at values.1;
      starts_after = rw (rows.1, work_front (kept (stays c.sets_aside-aside.result (elem a.table.rows.now) (elem a.table.cols.now)) (elem a.table.rows.now) a.table.count) _ _ (sym rows.0), c.sets_aside-aside.ensures) at c.set_starts.ensures;
    }
