-- `sign_calls::distance` meets its contract. Assumes nothing.
use mathlib.Core.Path.{refl, sym}
use lib.Seq.{length-take-le}
use Rattle.sign_calls.proofs.Accepting.{distance_accepted}
use Rattle.sign_calls.proofs.distance.Goals as goal

pub slice_bounds-distance-end : goal.slice_bounds-distance-end
slice_bounds-distance-end c = let a = c.args in
    let room = distance_accepted a.m a.x.now a.y.now c.in_ok-distance_number.ensures refl c.sign_words-count.ensures in
    sym (length-take-le _ a.x.now room.0)

pub slice_bounds-distance-end-2 : goal.slice_bounds-distance-end-2
slice_bounds-distance-end-2 c = let a = c.args in
    let room = distance_accepted a.m a.x.now a.y.now c.in_ok-distance_number.ensures refl c.sign_words-count.ensures in
    sym (length-take-le _ a.y.now room.1)

pub distance-requires : goal.distance-requires
distance-requires c = let a = c.args in
    let (long, other, few) = distance_accepted a.m a.x.now a.y.now c.in_ok-distance_number.ensures refl c.sign_words-count.ensures in
    rw (length-take-le _ a.x.now long, length-take-le _ a.y.now other) (refl, few)
