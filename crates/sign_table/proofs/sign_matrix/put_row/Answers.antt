-- `sign_table::sign_matrix::put_row` meets its contract.
use Rattle.sign_table.proofs.Built.{row_begin, row_found, row_turn, row_room, row_done, room_on}
use Rattle.sign_table.proofs.Bounds.{linear_small}
use Rattle.laws.proofs.Integer.{held}
use native.Mathlib.Omega.{arith}
use mathlib.Core.Path.{◌∙◌}
use Rattle.sign_table.proofs.sign_matrix.put_row.Goals as goal

pub loop-j-init : goal.loop-j-init
loop-j-init c = let p = c.requires in row_begin p.2 p.3 p.4

pub here_value-value-requires : goal.here_value-value-requires
here_value-value-requires c = let p = c.requires in
    (omega arith, linear_small p.2 c.args.i p.3, omega arith)

pub put-requires : goal.put-requires
put-requires c = let p = c.requires in
    let room = row_room p.2 p.3 c.loop-j.invariant c.in-Some.ensures in
    (room_on p.5 room c.loop-j.auto.to_rows c.loop-j.auto.to_cols c.loop-j.auto.to_values, omega arith, omega (arith, row_found p.2 p.3 c.loop-j.invariant c.in-Some.ensures))

pub overflow_add-at : goal.overflow_add-at
overflow_add-at c = let p = c.requires in
    omega (arith, row_room p.2 p.3 c.loop-j.invariant c.in-Some.ensures)

pub overflow_add-from : goal.overflow_add-from
overflow_add-from c = let p = c.requires in
    omega (arith, row_found p.2 p.3 c.loop-j.invariant c.in-Some.ensures)

pub loop-j-smaller : goal.loop-j-smaller
loop-j-smaller c = let p = c.requires in
    omega (arith, row_found p.2 p.3 c.loop-j.invariant c.in-Some.ensures)

pub loop-j-preserved : goal.loop-j-preserved
loop-j-preserved c = let p = c.requires in
    row_turn p.2 p.3 c.loop-j.invariant c.in-Some.ensures (held c.here_value-value.result c.here_value-value.type_inv ∙ c.here_value-value.ensures) c.after_here-k.ensures c.put.ensures

pub returns : goal.returns
returns c = let p = c.requires in row_done p.2 p.3 c.loop-j.invariant c.in_default.ensures
