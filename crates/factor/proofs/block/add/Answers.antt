-- `factor::block::add` meets its contract. The first j sums are rewritten. Assumes nothing.
use lib.Ieee.{nan}
use Rattle.laws.proofs.MapFirst.{map_first_next}
use Rattle.factor.proofs.block.add.Goals as goal

pub loop-j-preserved : goal.loop-j-preserved
loop-j-preserved g c = rw c.joined.ensures (map_first_next _ _ _ _ nan c.loop-j.invariant)
