-- `sign_table::sign_matrix::put_whole_row` meets its contract.
use Rattle.sign_table.proofs.Built.{sum_back, room_less, room_on, sum_small, whole_wrote, whole_many, next_row}
use Rattle.tables.proofs.Writing.{row_length_le}
use Rattle.sign_table.proofs.Cursor.{row_start_lem, total_start}
use Rattle.sign_table.proofs.Bounds.{linear_small}
use Rattle.tables.specs.Entries.{listed}
use Rattle.sign_table.specs.SignTable.{kept_of}
use Rattle.laws.specs.Lists.{elem_z}
use native.Mathlib.Omega.{arith}
use mathlib.Core.Path.{◌∙◌}
use Prim.Native.Nat.{suc}
use Rattle.sign_table.proofs.sign_matrix.put_whole_row.Goals as goal

pub row_sum-s-requires : goal.row_sum-s-requires
row_sum-s-requires c = let p = c.requires in
    (omega arith, omega arith, linear_small p.2 c.args.i p.3, row_start_lem p.4, total_start p.4)

pub put_row-at-requires : goal.put_row-at-requires
put_row-at-requires c = let a = c.args in
    let p = c.requires in
    (p.0, p.1, p.2, p.3, p.4, room_less p.5 (row_length_le (kept_of a.n (listed a.table) (elem_z a.c.now)) a.i a.n (suc a.n) (omega arith)))

pub put_negated-end-requires : goal.put_negated-end-requires
put_negated-end-requires c = let p = c.requires in
    rw (sum_back p.2 p.3 c.row_sum-s.ensures) (room_on p.5 (omega (arith, whole_many p.2 p.3 c.row_sum-s.ensures c.args.len c.put_row-at.ensures.1)) (omega arith) (omega arith) (omega arith), omega arith, omega arith, sum_small p.2 p.3 c.row_sum-s.ensures)

pub returns : goal.returns
returns c = let a = c.args in
    let p = c.requires in
    let back = sum_back p.2 p.3 c.row_sum-s.ensures in
    let edge = (rw back at c.put_negated-end.ensures) in
    (whole_wrote p.2 p.3 c.row_sum-s.ensures a.len c.put_row-at.ensures.1 c.put_row-at.ensures.0 edge.0, edge.1 ∙ whole_many p.2 p.3 c.row_sum-s.ensures a.len c.put_row-at.ensures.1, next_row p.2 p.3 c.row_sum-s.ensures)
