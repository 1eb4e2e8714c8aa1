-- `table_calls::halls::qubo_sign_table` meets its contract.
use lib.Dec.{lit<, lit≤}
use mathlib.Core.Path.{refl, sym, ap, ◌∙◌}
use Rattle.laws.specs.Lists.{elem_z}
use Rattle.refusal.proofs.Passed.{passed, some_number}
use Rattle.tables.specs.Table.{Table}
use Rattle.tables.proofs.Checks.{hall_accepted}
use Rattle.sign_table.proofs.Sizes.{hall_convertible}
use Rattle.table_calls.proofs.Accepting.{sign_lent, sign_numbered, sign_accepted, refused_converts, accepted_converts, enough_room}
use Rattle.table_calls.proofs.halls.qubo_sign_table.Goals as goal

pub checked_hall-requires : goal.checked_hall-requires
checked_hall-requires c = λ e. sign_lent _ _ _ _ _ _ _ _ _ (sym c.sign_short-short.ensures ∙ e)

pub returns-in_err-h : goal.returns-in_err-h
returns-in_err-h c = rw (passed c.from_residual.ensures.1) (refused_converts _ (sign_numbered _ _ _ _ _ _ _ _ _ c.sign_short-short.ensures c.in_err-h.ensures.number) (some_number _))

pub sign_matrix-requires : goal.sign_matrix-requires
sign_matrix-requires c = let h = c.in_ok-h.h in
    let (n, t, costs) = c.in_ok-h.ensures.judged in
    let room = (sign_accepted _ _ _ _ _ _ _ _ _ (sym (sign_numbered _ _ _ _ _ _ _ _ _ c.sign_short-short.ensures c.in_ok-h.ensures.number))).2 in
    (h.table.lent, h.costs_there, hall_convertible (lit< tt) (lit≤ tt) (hall_accepted h.judged), rw (n, ap (λ (x : Table). x.count) t) room)

pub returns : goal.returns
returns c = let (n, t, costs) = c.in_ok-h.ensures.judged in
    let numbered = sign_numbered _ _ _ _ _ _ _ _ _ c.sign_short-short.ensures c.in_ok-h.ensures.number in
    let (lent, linear, room, ok) = sign_accepted _ _ _ _ _ _ _ _ _ (sym numbered) in
    let made = rw (n, t, costs) at c.sign_matrix.ensures in
    accepted_converts _ numbered refl made.0 (enough_room (elem_z c.args.hall.c.now) ok.in_range room) made.1
