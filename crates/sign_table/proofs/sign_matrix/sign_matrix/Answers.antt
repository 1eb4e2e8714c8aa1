-- `sign_table::sign_matrix::sign_matrix` meets its contract.
use Rattle.sign_table.proofs.Sizes.{sign_room}
use Rattle.sign_table.proofs.Built.{all_count, all_wrote, total_back, room_less, room_on}
use Rattle.tables.specs.Entries.{listed}
use Rattle.laws.specs.Lists.{elem_z}
use native.Mathlib.Omega.{arith}
use Rattle.sign_table.proofs.sign_matrix.sign_matrix.Goals as goal

pub put_rows-len-requires : goal.put_rows-len-requires
put_rows-len-requires c = let p = c.requires in (p.0, p.1, p.2, room_less (sign_room p.2 p.3) (omega arith))

pub put_last_row-last-requires : goal.put_last_row-last-requires
put_last_row-last-requires c = let p = c.requires in
    (p.0, p.1, p.2, room_on (sign_room p.2 p.3) (omega arith) (omega arith) (omega arith) (omega arith))

pub put-requires : goal.put-requires
put-requires c = let p = c.requires in
    (room_on (sign_room p.2 p.3) (omega arith) (omega arith) (omega arith) (omega arith), omega arith, omega arith)

pub overflow_add-result : goal.overflow_add-result
overflow_add-result c = let p = c.requires in
    omega (arith, (sign_room p.2 p.3).rows_room)

pub returns : goal.returns
returns c = let a = c.args in
    let t = listed a.table in
    let lin = elem_z a.c.now in
    let p = c.requires in
    let first = c.put_rows-len.ensures in
    let last = c.put_last_row-last.ensures in (
      all_wrote a.n t lin p.2.in_range first.0 first.1 last.0 last.1 c.put.ensures (total_back p.2 last.2),
      omega (arith, all_count a.n t lin),
    )
