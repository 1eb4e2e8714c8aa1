-- `limited_search::search::search_limited` meets its contract. Assumes nothing.
use mathlib.Core.Path.{◌≡◌, sym, ◌∙◌}
use Prim.Native.Nat.{suc}
use native.Mathlib.Numerals.{add-one}
use native.Mathlib.Omega.{arith}
use lib.ListN.{length}
use lib.Seq.{length-take-le}
use Rattle.limits.specs.Limits.{most_signs, most_sign_entries, most_sign_magnitude}
use Rattle.tables.specs.Check.{Accepted}
use Rattle.tables.specs.Entries.{listed}
use Rattle.tables.proofs.Checks.{hall_accepted}
use Rattle.sign_table.proofs.MadeTables.{made_accepted}
use Rattle.finalize.proofs.Assembled.{room, sound}
use Rattle.limited_search.proofs.Starts.{start_binary, leaves, leaves_at}
use Rattle.limited_search.proofs.search.search_limited.Goals as goal

pub slice_bounds-signs-end-2 : goal.slice_bounds-signs-end-2
slice_bounds-signs-end-2 c = sym (length-take-le _ _ (omega (arith, (hall_accepted c.args.hall.judged).wagons)))

pub start_signs-requires : goal.start_signs-requires
start_signs-requires c = (c.requires.present_there, length-take-le _ _ (omega (arith, (hall_accepted c.args.hall.judged).wagons)) ∙ add-one _)

pub search_within-searched-requires : goal.search_within-searched-requires
search_within-searched-requires c =
    let ok = hall_accepted c.args.hall.judged in
    let sized : length c.start_signs.new.signs ≡ suc c.args.hall.n = c.start_signs.auto.signs ∙ length-take-le _ _ (omega arith) ∙ add-one _ in
    let accepted : Accepted most_signs most_sign_entries most_sign_magnitude (suc c.args.hall.n) (listed c.entries-table.result) = rw c.entries-table.ensures (made_accepted c.make.ensures ok) in
    (room accepted sized c.requires.width_few c.requires.space_room, rw c.start_signs.ensures (start_binary c.args.hall.n c.args.request.present.now c.requires.present_low), sound accepted sized, omega arith)

pub qubo_binary_from_sign_solution-requires : goal.qubo_binary_from_sign_solution-requires
qubo_binary_from_sign_solution-requires c =
    let sized : length c.start_signs.new.signs ≡ suc c.args.hall.n = c.start_signs.auto.signs ∙ length-take-le _ _ (omega (arith, (hall_accepted c.args.hall.judged).wagons)) ∙ add-one _ in
    (omega arith, c.requires.found_room)

pub returns : goal.returns
returns c = let a = c.args in
    leaves_at (c.entries-table.ensures ∙ c.make.ensures.is) a.hall.n a.request.present.now a.request.most a.request.width a.found.now _ _ _
    (leaves (listed c.entries-table.result) a.hall.n a.request.present.now a.request.most a.request.width c.start_signs.new.signs c.search_within-searched.new.kept a.found.now _ c.search_within-searched.result.least c.search_within-searched.result.rounds
    c.start_signs.ensures c.search_within-searched.ensures c.qubo_binary_from_sign_solution.ensures c.requires.found_room)
