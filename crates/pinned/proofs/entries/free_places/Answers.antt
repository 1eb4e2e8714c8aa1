use borrow.Author.Rules.{rules}
use Rattle.pinned.proofs.Walk.{place_so, place_next}
use Rattle.pinned.proofs.Steps.{free_before}
use Rattle.laws.proofs.MapFirst.{fill_more}
use native.Mathlib.Omega.{arith}
use Rattle.pinned.proofs.entries.free_places.Goals as goal

pub place_of-place-requires : goal.place_of-place-requires
place_of-place-requires c = (search rules, free_before c.args.states.now c.loop-i.invariant.0 (omega (arith, c.requires.0, c.loop-i-test.true)))

pub after-at-requires : goal.after-at-requires
after-at-requires c = free_before c.args.states.now c.loop-i.invariant.0 (omega (arith, c.requires.0, c.loop-i-test.true))

pub loop-i-preserved : goal.loop-i-preserved
loop-i-preserved c = let so = place_so c.args.states.now c.loop-i.i _ c.loop-i.invariant.0 c.place_of-place.ensures in (place_next _ _ _ (omega (arith, c.requires.0, c.loop-i-test.true)) c.loop-i.invariant.0 so c.after-at.ensures, fill_more _ _ _ c.loop-i.invariant.1 so)
