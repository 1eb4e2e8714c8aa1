-- `sign_table::sign_matrix::put_rows` meets its contract.
use Rattle.sign_table.proofs.Built.{rows_begin, rows_turn, rows_room, room_on}
use Rattle.tables.specs.Entries.{listed}
use Rattle.laws.specs.Lists.{elem_z}
use native.Mathlib.Omega.{arith}
use Rattle.sign_table.proofs.sign_matrix.put_rows.Goals as goal

pub loop-i-init : goal.loop-i-init
loop-i-init c = rows_begin _ _ _

pub put_whole_row-end-requires : goal.put_whole_row-end-requires
put_whole_row-end-requires c = let a = c.args in
    let p = c.requires in
    (p.0, p.1, p.2, c.loop-i-test.true, c.loop-i.invariant.cursor, room_on p.3 (omega (arith, rows_room a.n (listed a.table) (elem_z a.c.now) c.loop-i.invariant c.loop-i-test.true)) c.loop-i.auto.to_rows c.loop-i.auto.to_cols c.loop-i.auto.to_values)

pub loop-i-preserved : goal.loop-i-preserved
loop-i-preserved c = let a = c.args in
    rows_turn a.n (listed a.table) (elem_z a.c.now) c.loop-i.invariant c.loop-i-test.true c.put_whole_row-end.ensures.0 c.put_whole_row-end.ensures.1 c.put_whole_row-end.ensures.2
