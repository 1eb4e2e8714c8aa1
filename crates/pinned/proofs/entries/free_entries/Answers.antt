use Rattle.pinned.proofs.Walk.{walk_begin, walk_few, walk_room, walk_turn, walk_done}
use Prim.Native.Nat.{◌<◌}
use native.Mathlib.Omega.{arith}
use mathlib.Core.Path.{◌≡◌}
use Rattle.pinned.proofs.entries.free_entries.Goals as goal

pub loop-l-init : goal.loop-l-init
loop-l-init c = walk_begin _ _ _ _ _

pub put_entry-at-requires : goal.put_entry-at-requires
put_entry-at-requires c = let w = c.loop-l.invariant in
    let k = c.loop-l.auto in
    let b : c.loop-l.l < c.args.from.table.count = omega (arith, c.loop-l-test.true, c.free_end-end.ensures.inside) in
    (b, omega (arith, walk_few _ _ w, c.requires.0), walk_room _ _ w b c.requires.1 k.to_rows k.to_cols k.to_values)

pub loop-l-preserved : goal.loop-l-preserved
loop-l-preserved c = let e = c.put_entry-at.ensures in
    walk_turn _ _ c.loop-l.invariant (omega (arith, c.loop-l-test.true, c.free_end-end.ensures.inside)) c.requires.1 e.0 e.1 e.2 e.3

pub returns : goal.returns
returns c = let q : c.loop-l.l ≡ c.free_end-end.result = omega (arith, c.loop-l.auto.l-end, c.loop-l-test.false) in
    walk_done _ _ c.loop-l.invariant (rw q c.free_end-end.ensures)
