-- `block_search::search::search_reduced` meets its contract. Assumes nothing.
use mathlib.Core.Path.{◌≡◌, sym, ap, ◌∙◌}
use Prim.Native.Nat.{suc}
use native.Mathlib.Numerals.{add-one}
use native.Mathlib.Omega.{arith}
use lib.ListN.{length}
use lib.Seq.{length-take-le}
use Rattle.limits.specs.Limits.{most_signs, most_sign_entries, most_sign_magnitude}
use Rattle.laws.proofs.Integer.{held}
use Rattle.tables.specs.Check.{Accepted}
use Rattle.tables.specs.Entries.{listed}
use Rattle.tables.proofs.Checks.{hall_accepted}
use Rattle.sign_table.proofs.MadeTables.{made_accepted}
use Rattle.finalize.proofs.Assembled.{room, sound, objective_held}
use Rattle.block_search.specs.Clauses.{start_signs}
use Rattle.block_search.proofs.Steps.{start_binary, differ_fits, from_made, objective_is}
use Rattle.block_search.proofs.search.search_reduced.Goals as goal
use Rattle.block_search.proofs.search.search_reduced.Goals.{After-start_signs}

-- the table made is accepted, and there is a sign for each wagon and the anchor
module _ (c : After-start_signs) where
  accepted : Accepted most_signs most_sign_entries most_sign_magnitude (suc c.args.hall.n) (listed c.entries-table.result)
  accepted = rw c.entries-table.ensures (made_accepted c.make.ensures (hall_accepted c.args.hall.judged))

  sized : length c.start_signs.new.signs ≡ suc c.args.hall.n
  sized = c.start_signs.auto.signs ∙ length-take-le _ _ (omega (arith, (hall_accepted c.args.hall.judged).wagons)) ∙ add-one _

pub slice_bounds-signs-end : goal.slice_bounds-signs-end
slice_bounds-signs-end c = omega (arith, (hall_accepted c.args.hall.judged).wagons)

pub slice_bounds-signs-end-2 : goal.slice_bounds-signs-end-2
slice_bounds-signs-end-2 c = sym (length-take-le _ _ (omega (arith, (hall_accepted c.args.hall.judged).wagons)))

pub start_signs-requires : goal.start_signs-requires
start_signs-requires c = (c.requires.wagons_there, length-take-le _ _ (omega (arith, (hall_accepted c.args.hall.judged).wagons)) ∙ add-one _ ∙ ap (λ k. suc k) (sym c.requires.wagons_many))

pub obj_rounded-start-requires : goal.obj_rounded-start-requires
obj_rounded-start-requires c =
    let w = (goal.at.obj_rounded-start-requires c).After-start_signs in
    (rw (sized w) (accepted w).in_range, (accepted w).magnitude)

pub search_signs-searched-requires : goal.search_signs-searched-requires
search_signs-searched-requires c =
    let w = (goal.at.search_signs-searched-requires c).After-start_signs in
    (room (accepted w) (sized w) c.requires.width_few c.requires.space_room, rw c.start_signs.ensures (start_binary c.args.free.now c.requires.bytes_low), sound (accepted w) (sized w))

pub qubo_binary_from_sign_solution-requires : goal.qubo_binary_from_sign_solution-requires
qubo_binary_from_sign_solution-requires c =
    let w = (goal.at.qubo_binary_from_sign_solution-requires c).After-start_signs in
    (omega (arith, c.search_signs-searched.auto.kept, sized w), c.requires.found_room)

pub overflow_sub-result : goal.overflow_sub-result
overflow_sub-result c =
    let w = (goal.at.overflow_sub-result c).After-start_signs in
    differ_fits (accepted w) c.start_signs.new.signs c.search_signs-searched.new.kept (held c.obj_rounded-start.result c.obj_rounded-start.type_inv ∙ c.obj_rounded-start.ensures ∙ objective_is _ c.start_signs.new.signs) (objective_held (accepted w) _ c.search_signs-searched.ensures.least_is ∙ c.search_signs-searched.ensures.least_is)

pub returns : goal.returns
returns c =
    let w = (goal.at.returns c).After-start_signs in
    rw (c.entries-table.ensures ∙ c.make.ensures.is) at
    (from_made (accepted w) c.args.width c.args.hall.n (start_signs c.args.free.now c.args.b.now) c.start_signs.new.signs c.search_signs-searched.new.kept c.args.found.now _ (held c.obj_rounded-start.result c.obj_rounded-start.type_inv ∙ c.obj_rounded-start.ensures ∙ objective_is _ c.start_signs.new.signs) (objective_held (accepted w) _ c.search_signs-searched.ensures.least_is ∙ c.search_signs-searched.ensures.least_is) c.start_signs.ensures c.search_signs-searched.ensures c.qubo_binary_from_sign_solution.ensures c.requires.found_room)
