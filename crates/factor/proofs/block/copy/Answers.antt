-- `factor::block::copy` meets its contract. The first j sums are copied. Assumes nothing.
use lib.Ieee.{nan}
use Rattle.laws.proofs.MapFirst.{map_first_next}
use Rattle.factor.proofs.block.copy.Goals as goal

pub loop-j-preserved : goal.loop-j-preserved
loop-j-preserved g c = map_first_next _ _ _ _ nan c.loop-j.invariant
