-- `several_runs::turn::turn_accepted` meets its contract. Assumes nothing.
use mathlib.Core.Path.{◌∙◌}
use native.Mathlib.Omega.{arith}
use Rattle.laws.proofs.MapFirst.{fill_none, fill_more}
use Rattle.several_runs.proofs.Counted.{open_below_none, open_below_next, found_few, turn_few, open_counts}
use Rattle.several_runs.proofs.Cursors.{cursor_start, cut_number, cursor_next}
use Rattle.several_runs.proofs.OnTurns.{turn_good, few_runs, number_good}
use Rattle.several_runs.proofs.Moving.{start, step}
use Rattle.several_runs.proofs.turn.turn_accepted.Goals as goal

pub open_below-open-requires : goal.open_below-open-requires
open_below-open-requires c = few_runs _ _ _ _ _ c.requires

pub loop-i-init : goal.loop-i-init
loop-i-init c = (rw (c.default-at.ensures.0, c.default-at.ensures.1.0, c.default-at.ensures.1.1) (cursor_start _ _ _), open_below_none _, fill_none _ _, start _ _ _ _ _ c.requires)

pub share_of-k-requires : goal.share_of-k-requires
share_of-k-requires c = (rw c.open_below-open.ensures (open_counts _ _ _ c.loop-i-test.true), turn_few _ (turn_good _ _ _ _ _ c.requires))

pub turn_one-requires : goal.turn_one-requires
turn_one-requires c =
    let number = cut_number _ _ _ c.loop-i.invariant.0 c.hall_from-table.ensures ∙ number_good _ _ _ _ _ c.requires _ c.loop-i-test.true in
    record {
      start_in_bounds = rw c.loop-i.auto.factors c.loop-i.invariant.0.factors_room;
      accepted = rw c.loop-i.auto.factors number;
    }

pub overflow_add-before : goal.overflow_add-before
overflow_add-before c = omega (arith, found_few _ _ c.loop-i.invariant.1 c.open_one-before.ensures (omega (arith, few_runs _ _ _ _ _ c.requires, c.loop-i-test.true)))

pub behind-at-requires : goal.behind-at-requires
behind-at-requires c = let k = cursor_next _ _ _ c.loop-i.invariant.0 (number_good _ _ _ _ _ c.requires _ c.loop-i-test.true) in (omega (arith, k.rows_room), omega (arith, k.costs_room), omega (arith, k.factors_room))

pub loop-i-preserved : goal.loop-i-preserved
loop-i-preserved c = let k = cursor_next _ _ _ c.loop-i.invariant.0 (number_good _ _ _ _ _ c.requires _ c.loop-i-test.true) in
    let st = step _ _ _ _ _ c.requires c.loop-i-test.true c.loop-i.invariant.0 c.open_below-open.ensures c.loop-i.invariant.1 c.loop-i.invariant.3 c.share_of-k.ensures c.hall_from-table.ensures c.turn_one.ensures in
    (rw (c.behind-at.ensures.0, c.behind-at.ensures.1, c.behind-at.ensures.2) k, open_below_next _ _ c.loop-i.invariant.1 c.open_one-before.ensures, fill_more _ _ _ c.loop-i.invariant.2 st.0, st.1)
