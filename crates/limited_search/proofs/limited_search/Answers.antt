-- `limited_search` meets its contract: a refusal lends nothing on, and the search is lent what it writes and no more. Assumes nothing.
use mathlib.Core.Path.{sym, ◌∙◌}
use native.Mathlib.Omega.{arith}
use Prim.Native.Nat.{◌-◌}
use lib.ListN.{take, drop}
use Rattle.limits.specs.Limits.{search_workspace}
use Rattle.tables.specs.Lent.{costs_of}
use Rattle.sign_search.proofs.ExpandLaws.{part_size}
use Rattle.tables.proofs.Checks.{hall_passes}
use Rattle.limited_search.proofs.Numbers.{ready}
use Rattle.limited_search.proofs.Calls.{searches}
use Rattle.limited_search.proofs.limited_search.Goals as goal

pub slice_bounds-search_limited-end : goal.slice_bounds-search_limited-end
slice_bounds-search_limited-end c = (ready (costs_of c.args.hall) _ _ _ _ _ (sym c.in_ok-limited_number.ensures)).choice_there

pub slice_bounds-search_limited-end-2 : goal.slice_bounds-search_limited-end-2
slice_bounds-search_limited-end-2 c = (ready (costs_of c.args.hall) _ _ _ _ _ (sym c.in_ok-limited_number.ensures)).space_there

pub judged_hall-requires : goal.judged_hall-requires
judged_hall-requires c = let a = c.args in
    let r = ready (costs_of a.hall) _ _ _ _ _ (sym c.in_ok-limited_number.ensures) in
    record { lent = r.lent; costs_there = r.costs_there; judged = hall_passes r.hall }

pub search_limited-found-requires : goal.search_limited-found-requires
search_limited-found-requires c =
    let a = c.args in
    let r = ready (costs_of a.hall) _ _ _ _ _ (sym c.in_ok-limited_number.ensures) in
    let n = part_size a.hall.table.size a.choice.now r.choice_there in
    let s = part_size search_workspace a.workspace.now r.space_there in
    rw c.judged_hall.ensures.0 (r.fits _ _ (omega arith) (omega arith))

pub returns : goal.returns
returns c =
    let a = c.args in
    let r = ready (costs_of a.hall) _ _ _ _ _ (sym c.in_ok-limited_number.ensures) in
    let n = part_size a.hall.table.size a.choice.now r.choice_there in
    let s = part_size search_workspace a.workspace.now r.space_there in
    let of = c.judged_hall.ensures in
    searches (costs_of a.hall) _ _ _ _ _
    (sym c.in_ok-limited_number.ensures) (take (a.hall.table.size - 0) (drop 0 a.choice.now)) c.search_limited-found.new.found c.search_limited-found.new.workspace
    c.search_limited-found.result.least c.search_limited-found.result.rounds n (c.search_limited-found.auto.found ∙ n) (c.search_limited-found.auto.workspace ∙ s) (rw (of.0, of.1, of.2) at c.search_limited-found.ensures)
