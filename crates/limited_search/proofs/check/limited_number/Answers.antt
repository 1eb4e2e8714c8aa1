use mathlib.Core.Path.{sym, ◌∙◌}
use lib.ListN.{length}
use Rattle.tables.specs.Lent.{costs_of}
use Rattle.tables.proofs.Checks.{hall_accepted}
use Rattle.limited_search.proofs.Numbers.{slices_long}
use Rattle.limited_search.proofs.check.limited_number.Goals as goal

pub hall_number-requires : goal.hall_number-requires
hall_number-requires c = let a = c.args in
    let l = slices_long (costs_of a.hall) (length a.request.present.now) a.choice a.workspace (sym c.call_short.ensures ∙ c.if-call_short.false) in
    (λ h. l.table_long h, λ h. l.costs_long h)

pub move_number-requires : goal.move_number-requires
move_number-requires c = let a = c.args in
    let l = slices_long (costs_of a.hall) (length a.request.present.now) a.choice a.workspace (sym c.call_short.ensures ∙ c.if-call_short.false) in
    let ok = hall_accepted (sym c.in_ok-hall_number.ensures) in
    l.present_long ok.wagons
