-- `ranged_finish::number::ranged_finish_number` meets its contract. Assumes nothing.
use mathlib.Core.Path.{sym, ◌∙◌}
use Rattle.std.proofs.Common.{rules}
use Rattle.run_record.proofs.Refused.{handed_on, some_refusal}
use Rattle.ranged_finish.proofs.Deciding.{by_state, by_table, by_settings}
use Rattle.ranged_finish.proofs.Theorems.{slices_lent}
use Rattle.ranged_finish.proofs.number.ranged_finish_number.Goals as goal

pub returns-then-matches : goal.returns-then-matches
returns-then-matches c =
    let s = sym c.ranged_short.ensures ∙ c.if-ranged_short.false in
    let n = rw c.high_hall.ensures at c.finish_number-finish.ensures in
    n ∙ by_state _ _ _ _ _ s (search rules)

pub ranged_number-requires : goal.ranged_number-requires
ranged_number-requires c = slices_lent _ (sym c.ranged_short.ensures ∙ c.if-ranged_short.false)

pub returns-in_err-ranged_number : goal.returns-in_err-ranged_number
returns-in_err-ranged_number c =
    let s = sym c.ranged_short.ensures ∙ c.if-ranged_short.false in
    let n = rw c.high_hall.ensures at c.finish_number-finish.ensures in
    handed_on _ _ c.from_residual.ensures.1 c.in_err-ranged_number.ensures
    ∙ by_table _ _ _ _ _ s (search rules) (some_refusal _ c.in_err-ranged_number.ensures)

pub returns : goal.returns
returns c = let s = sym c.ranged_short.ensures ∙ c.if-ranged_short.false in
    rw c.high_hall.ensures at c.finish_number-finish.ensures ∙ by_settings _ _ _ _ _ s (sym c.in_ok-ranged_number.ensures)
