-- `several_runs::numbers::members_number` meets its contract. Assumes nothing.
use mathlib.Core.Path.{refl, sym, ◌∙◌}
use native.Mathlib.Omega.{arith}
use Rattle.laws.specs.Refusal.{first_of}
use Rattle.laws.proofs.Refusal.{passed, found}
use Rattle.run_record.proofs.Refused.{handed_on, some_refusal}
use Rattle.several_runs.proofs.Cursors.{cursor_start, cut_number, cursor_passed}
use Rattle.several_runs.proofs.numbers.members_number.Goals as goal

pub loop-i-init : goal.loop-i-init
unfolding first_of
loop-i-init c = (rw (c.default-at.ensures.0, c.default-at.ensures.1.0, c.default-at.ensures.1.1) (cursor_start _ _ _), refl)

pub returns-in_err-member_number : goal.returns-in_err-member_number
returns-in_err-member_number c = let n = handed_on _ _ c.from_residual.ensures.1 c.in_err-member_number.ensures in
    found _ _ _ c.loop-i.invariant.1 c.loop-i-test.true (n ∙ cut_number _ _ _ c.loop-i.invariant.0 c.hall_from-table.ensures) (λ z. some_refusal _ c.in_err-member_number.ensures (sym n ∙ z))

pub behind-at-requires : goal.behind-at-requires
behind-at-requires c =
    let number = c.in_ok-member_number.ensures ∙ cut_number _ _ _ c.loop-i.invariant.0 c.hall_from-table.ensures in
    let k = cursor_passed _ _ _ c.loop-i.invariant.0 number refl in
    (omega (arith, k.rows_room), omega (arith, k.costs_room), omega (arith, k.factors_room))

pub loop-i-preserved : goal.loop-i-preserved
loop-i-preserved c =
    let number = c.in_ok-member_number.ensures ∙ cut_number _ _ _ c.loop-i.invariant.0 c.hall_from-table.ensures in (
      rw (c.behind-at.ensures.0, c.behind-at.ensures.1, c.behind-at.ensures.2) (cursor_passed _ _ _ c.loop-i.invariant.0 number refl),
      passed _ _ c.loop-i.invariant.1 number refl,
    )
