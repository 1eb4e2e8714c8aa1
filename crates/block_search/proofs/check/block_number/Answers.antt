-- `block_search::check::block_number` meets its contract. Assumes nothing.
use mathlib.Core.Path.{refl, sym, ap, ◌∙◌}
use Rattle.refusal.specs.Number.{numbered}
use Rattle.refusal.proofs.Passed.{passed, some_number}
use Rattle.laws.proofs.Following.{answers, answers_if, answers_last, moves_on, moves_on_if}
use Rattle.tables.proofs.Checks.{hall_accepted}
use Rattle.block_search.specs.Numbers.{block_number}
use Rattle.block_search.proofs.Numbers.{slices_long}
use Rattle.block_search.proofs.check.block_number.Goals as goal

pub returns-then-call_short : goal.returns-then-call_short
unfolding block_number
returns-then-call_short c = answers_if 30 _ _ (sym c.call_short.ensures ∙ c.if-call_short.true)

pub hall_number-requires : goal.hall_number-requires
hall_number-requires c = let l = slices_long (sym c.call_short.ensures ∙ c.if-call_short.false) in (λ h. l.table_long h, λ h. l.costs_long h)

pub returns-in_err-hall_number : goal.returns-in_err-hall_number
unfolding block_number
returns-in_err-hall_number c = ap numbered (passed c.from_residual.ensures.1) ∙ moves_on_if 31 _ _ (sym c.call_short.ensures ∙ c.if-call_short.false) (answers _ _ c.in_err-hall_number.ensures (some_number _))

pub invariant_of-long : goal.invariant_of-long
invariant_of-long c =
    let l = slices_long (sym c.call_short.ensures ∙ c.if-call_short.false) in
    let ok = hall_accepted (sym c.in_ok-hall_number.ensures) in
    record { wagons_few = ok.wagons; stores_there = l.stores_long; present_there = l.present_long ok.wagons; wagons_there = λ h. l.wagons_long h }

pub returns : goal.returns
unfolding block_number
returns c = moves_on_if 31 _ _ (sym c.call_short.ensures ∙ c.if-call_short.false) (moves_on _ _ c.in_ok-hall_number.ensures refl (answers_last _ c.list_number.ensures))
