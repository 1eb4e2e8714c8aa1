-- `sign_table::sign_matrix::put_last_row` meets its contract.
use Rattle.sign_table.proofs.Built.{LastInv, last_begin, last_turn, last_room, last_fits, room_on, sum_back, sum_small}
use Rattle.sign_table.proofs.Cursor.{row_start_lem, total_start}
use Rattle.sign_table.proofs.Bounds.{linear_small}
use native.Mathlib.Omega.{arith}
use mathlib.Core.Path.{◌≡◌, refl, ◌∙◌}
use mathlib.Core.List.{List}
use lib.IntN.{ℤ}
use mir.Syntax.{w64}
use mir.Val.{to_z}
use Rattle.tables.specs.Table.{Table}
use Prim.Native.Nat.{ℕ}
use Rattle.sign_table.proofs.sign_matrix.put_last_row.Goals as goal

-- The invariant says of the sum only what its bits say.
last_total : {n : ℕ} {h : Table} {c : ℕ → ℤ} {len k at i total t : ℕ} {rows cols : List ℕ} {values : List ℤ} {rows' cols' : List ℕ} {values' : List ℤ} → LastInv n h c len k at i total rows cols values rows' cols' values' → to_z w64 t ≡ to_z w64 total → LastInv n h c len k at i t rows cols values rows' cols' values'
last_total x e = record { up = x.up; cursor = x.cursor; wrote = x.wrote; many = x.many; sums = e ∙ x.sums }

pub loop-i-init : goal.loop-i-init
loop-i-init c = λ t e. last_total (last_begin _ _ _) e

pub row_sum-s-requires : goal.row_sum-s-requires
row_sum-s-requires c = let p = c.requires in
    (omega arith, omega arith, linear_small p.2 c.loop-i.i c.loop-i-test.true, row_start_lem (c.loop-i.invariant c.loop-i.total-bits refl).cursor, total_start (c.loop-i.invariant c.loop-i.total-bits refl).cursor)

pub put_negated-at-requires : goal.put_negated-at-requires
put_negated-at-requires c = let p = c.requires in
    rw (sum_back p.2 c.loop-i-test.true c.row_sum-s.ensures) (room_on p.3 (last_room p.2 (c.loop-i.invariant c.loop-i.total-bits refl) c.loop-i-test.true c.row_sum-s.ensures) c.loop-i.auto.to_rows c.loop-i.auto.to_cols c.loop-i.auto.to_values, omega arith, omega arith, sum_small p.2 c.loop-i-test.true c.row_sum-s.ensures)

pub overflow_add-total : goal.overflow_add-total
overflow_add-total c = last_fits c.requires.2 (c.loop-i.invariant c.loop-i.total-bits refl) c.loop-i-test.true c.row_sum-s.ensures

pub loop-i-preserved : goal.loop-i-preserved
loop-i-preserved c = let p = c.requires in
    let back = sum_back p.2 c.loop-i-test.true c.row_sum-s.ensures in
    let edge = (rw back at c.put_negated-at.ensures) in
    λ t e. last_total (last_turn p.2 (c.loop-i.invariant c.loop-i.total-bits refl) c.loop-i-test.true c.row_sum-s.ensures edge.0 edge.1 refl) e
