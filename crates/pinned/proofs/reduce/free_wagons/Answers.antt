use borrow.Author.Rules.{rules}
use Rattle.pinned.proofs.Steps.{free_put, free_count_lem, free_before}
use native.Mathlib.Omega.{arith}
use Rattle.pinned.proofs.reduce.free_wagons.Goals as goal

pub put_kept-at-requires : goal.put_kept-at-requires
put_kept-at-requires c = free_before c.args.states.now c.loop-i.invariant.0 (omega (arith, c.loop-i.auto.free, c.requires.2, c.loop-i-test.true))

pub loop-i-preserved : goal.loop-i-preserved
loop-i-preserved c = (free_count_lem _ _ _ c.loop-i.invariant.0 c.put_kept-at.ensures.value, free_put _ _ _ _ _ c.loop-i.invariant.0 (search rules) c.loop-i.invariant.1 c.put_kept-at.ensures.out_after)
