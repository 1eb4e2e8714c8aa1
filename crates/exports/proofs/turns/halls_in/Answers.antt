-- `exports::turns::halls_in` meets its contract. Assumes nothing.
use mathlib.Core.Path.{refl}
use Rattle.laws.proofs.MapFirst.{fill_none, fill_more, fill_all}
use Rattle.exports.specs.TurnWords.{halls_in}
use Rattle.exports.proofs.turns.halls_in.Goals as goal

pub loop-i-init : goal.loop-i-init
loop-i-init c = fill_none _ _

pub loop-i-preserved : goal.loop-i-preserved
loop-i-preserved c = fill_more _ _ _ c.loop-i.invariant refl

pub returns : goal.returns
unfolding halls_in
returns c = fill_all _ _ _ _ c.loop-i.invariant c.loop-i.auto.i-end c.loop-i-test.false
