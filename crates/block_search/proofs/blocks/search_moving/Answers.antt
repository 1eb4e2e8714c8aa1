-- `block_search::blocks::search_moving` meets its contract. Assumes nothing.
use mathlib.Core.Path.{◌≡◌, sym, ap, ◌∙◌}
use native.Mathlib.Omega.{arith}
use lib.ListN.{take}
use lib.Seq.{length-take-le, take_at}
use Rattle.laws.proofs.Integer.{held as kept}
use Rattle.tables.proofs.Checks.{hall_accepted}
use Rattle.block_search.specs.Blocks.{held}
use Rattle.block_search.specs.Clauses.{moved_by}
use Rattle.block_search.proofs.Held.{length_states}
use Rattle.block_search.proofs.blocks.search_moving.Goals as goal

pub hold-requires : goal.hold-requires
hold-requires c = (omega (arith, c.requires.bytes_many), omega (arith, (hall_accepted c.args.hall.judged).wagons))

pub slice_bounds-states-end : goal.slice_bounds-states-end
slice_bounds-states-end c = omega (arith, (hall_accepted c.args.hall.judged).wagons, c.hold.auto.states)

pub slice_bounds-search_held-end : goal.slice_bounds-search_held-end
slice_bounds-search_held-end c = sym (length-take-le _ _ (omega (arith, (hall_accepted c.args.hall.judged).wagons, c.hold.auto.states)))

pub search_held-requires : goal.search_held-requires
search_held-requires c =
    let many = length-take-le c.args.hall.n c.hold.new.states (omega (arith, (hall_accepted c.args.hall.judged).wagons, c.hold.auto.states)) in
    (omega (arith, many), c.requires.bytes_many, c.requires.bytes_low, c.requires.width_few, c.requires.space_room)

pub returns : goal.returns
returns c =
    let cut : take c.args.hall.n c.hold.new.states ≡ held c.args.hall.n (moved_by c.args.moving.pinned.now c.args.moving.block) c.args.b.now =
    ap (take c.args.hall.n) c.hold.ensures ∙ take_at (held c.args.hall.n (moved_by c.args.moving.pinned.now c.args.moving.block) c.args.b.now) _ c.args.hall.n (length_states c.args.hall.n (moved_by c.args.moving.pinned.now c.args.moving.block) c.args.b.now c.requires.bytes_low) in
    let p = rw cut at c.search_held.ensures in (kept c.search_held.result c.search_held.type_inv ∙ p.0, p.1)
