use Rattle.laws.proofs.MapFirst.{fill_more}
use Rattle.pinned.proofs.reduce.held_choice.Goals as goal

pub loop-i-preserved : goal.loop-i-preserved
loop-i-preserved c = fill_more _ _ _ c.loop-i.invariant c.held_byte.ensures
