-- `sign_calls::pack_signs` meets its contract. Assumes nothing.
use mathlib.Core.Path.{refl, sym}
use native.Mathlib.Omega.{arith}
use lib.Seq.{length-take-le}
use Rattle.sign_calls.proofs.Accepting.{pack_room}
use Rattle.sign_calls.proofs.pack_signs.Goals as goal

pub slice_bounds-pack-end : goal.slice_bounds-pack-end
slice_bounds-pack-end c = let a = c.args in
    let room = pack_room a.m a.signs.now a.words.now c.in_ok-pack_number.ensures refl c.sign_words-count.ensures in
    sym (length-take-le _ a.signs.now room.0)

pub slice_bounds-pack-end-3 : goal.slice_bounds-pack-end-3
slice_bounds-pack-end-3 c = let a = c.args in
    let room = pack_room a.m a.signs.now a.words.now c.in_ok-pack_number.ensures refl c.sign_words-count.ensures in
    sym (length-take-le _ a.words.now room.1)

pub pack-requires : goal.pack-requires
pack-requires c = let a = c.args in
    let (long, room, few, fit) = pack_room a.m a.signs.now a.words.now c.in_ok-pack_number.ensures refl c.sign_words-count.ensures in
    rw (length-take-le _ a.signs.now long, length-take-le _ a.words.now room) (omega arith, fit)
