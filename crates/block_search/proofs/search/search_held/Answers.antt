-- `block_search::search::search_held` meets its contract. Assumes nothing.
use mathlib.Core.Path.{◌≡◌, ◌∙◌, sym}
use Prim.Native.Nat.{◌≤◌}
use native.Mathlib.Omega.{arith}
use lib.ListN.{length, take}
use lib.Seq.{length-take-le}
use Rattle.laws.proofs.Integer.{held}
use Rattle.limits.specs.Limits.{most_wagons, most_entries}
use Rattle.tables.proofs.Checks.{hall_accepted, hall_passes}
use Rattle.pinned.specs.Pinned.{free_of}
use Rattle.pinned.proofs.Lifting.{free_in_lem}
use Rattle.pinned.proofs.Steps.{free_cut}
use Rattle.block_search.proofs.Steps.{reducing, entries_few, wagons_few, front_hall, search_made, lent_front}
use Rattle.block_search.proofs.search.search_held.Goals as goal
use Rattle.block_search.proofs.search.search_held.Goals.{After-reduce-shrunk}

-- how much is left to search: entries and wagons, and which wagons these are
module _ (c : After-reduce-shrunk) where
  few : c.reduce-shrunk.result.count ≤ most_entries
  few = entries_few (reducing c.args.hall c.requires.0) c.reduce-shrunk.ensures.2

  fewer : c.reduce-shrunk.result.free ≤ most_wagons
  fewer = omega (arith, wagons_few (reducing c.args.hall c.requires.0) c.reduce-shrunk.ensures.2 c.reduce-shrunk.ensures.1, (hall_accepted c.args.hall.judged).wagons)

  free_many : length (take c.reduce-shrunk.result.free c.reduce-shrunk.new.free) ≡ c.reduce-shrunk.result.free
  free_many = length-take-le _ _ (omega (arith, fewer, c.reduce-shrunk.auto.free))

  free_is : take c.reduce-shrunk.result.free c.reduce-shrunk.new.free ≡ free_of c.args.hall.n c.args.states.now
  free_is = free_cut _ _ _ _ _ c.reduce-shrunk.ensures.0 c.reduce-shrunk.ensures.1

pub reduce-shrunk-requires : goal.reduce-shrunk-requires
reduce-shrunk-requires c = let ok = hall_accepted c.args.hall.judged in (c.requires.0, omega (arith, ok.wagons), record { rows_room = omega (arith, ok.entries); cols_room = omega (arith, ok.entries); values_room = omega (arith, ok.entries) }, omega (arith, ok.wagons))

pub slice_bounds-to_rows-end : goal.slice_bounds-to_rows-end
slice_bounds-to_rows-end c = omega (arith, few (goal.at.slice_bounds-to_rows-end c).After-reduce-shrunk, c.reduce-shrunk.auto.to_rows)

pub slice_bounds-table-end : goal.slice_bounds-table-end
slice_bounds-table-end c = sym (length-take-le _ _ (omega (arith, few (goal.at.slice_bounds-table-end c).After-reduce-shrunk, c.reduce-shrunk.auto.to_rows)))

pub slice_bounds-to_cols-end : goal.slice_bounds-to_cols-end
slice_bounds-to_cols-end c = omega (arith, few (goal.at.slice_bounds-to_cols-end c).After-reduce-shrunk, c.reduce-shrunk.auto.to_cols)

pub slice_bounds-table-end-2 : goal.slice_bounds-table-end-2
slice_bounds-table-end-2 c = sym (length-take-le _ _ (omega (arith, few (goal.at.slice_bounds-table-end-2 c).After-reduce-shrunk, c.reduce-shrunk.auto.to_cols)))

pub slice_bounds-to_values-end : goal.slice_bounds-to_values-end
slice_bounds-to_values-end c = omega (arith, few (goal.at.slice_bounds-to_values-end c).After-reduce-shrunk, c.reduce-shrunk.auto.to_values)

pub slice_bounds-table-end-3 : goal.slice_bounds-table-end-3
slice_bounds-table-end-3 c = sym (length-take-le _ _ (omega (arith, few (goal.at.slice_bounds-table-end-3 c).After-reduce-shrunk, c.reduce-shrunk.auto.to_values)))

pub invariant_of-table : goal.invariant_of-table
invariant_of-table c =
    let w = (goal.at.invariant_of-table c).After-reduce-shrunk in
    record { lent = lent_front _ _ _ _ (omega (arith, few w, c.reduce-shrunk.auto.to_rows)) (omega (arith, few w, c.reduce-shrunk.auto.to_cols)) (omega (arith, few w, c.reduce-shrunk.auto.to_values)) }

pub invariant_of-reduced : goal.invariant_of-reduced
invariant_of-reduced c =
    let w = (goal.at.invariant_of-reduced c).After-reduce-shrunk in
    let costs_many : length (take c.reduce-shrunk.result.free c.reduce-shrunk.new.to_c) ≡ c.reduce-shrunk.result.free = length-take-le _ _ (omega (arith, (fewer w), c.reduce-shrunk.auto.to_c)) in
    record {
      costs_there = omega (arith, costs_many);
      judged = hall_passes (front_hall (reducing c.args.hall c.requires.0) c.reduce-shrunk.ensures.2 c.reduce-shrunk.ensures.1 (record { rows_room = omega (arith, few w); cols_room = omega (arith, few w); values_room = omega (arith, few w) }));
    }

pub search_reduced-fall-requires : goal.search_reduced-fall-requires
search_reduced-fall-requires c =
    let w = (goal.at.search_reduced-fall-requires c).After-reduce-shrunk in
    record { wagons_many = (free_many w); wagons_there = free_in_lem c.args.hall.n _ c.args.states.now (free_is w) (omega (arith, c.requires.1)); bytes_low = c.requires.2; width_few = c.requires.3; found_room = omega (arith, (fewer w)); space_room = c.requires.4 }

pub returns : goal.returns
returns c =
    let w = (goal.at.returns c).After-reduce-shrunk in
    let p = search_made (reducing c.args.hall c.requires.0) c.reduce-shrunk.ensures.2 c.reduce-shrunk.ensures.1 (record { rows_room = omega (arith, few w); cols_room = omega (arith, few w); values_room = omega (arith, few w) }) c.args.width _ c.args.b.now _ _ _ _ (free_is w) c.search_reduced-fall.ensures.0 c.search_reduced-fall.ensures.1 c.lift_choice.ensures c.requires.1 in
    (held c.search_reduced-fall.result c.search_reduced-fall.type_inv ∙ p.0, p.1)
