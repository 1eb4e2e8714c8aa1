-- `reduced::indices::any_twice` meets its contract. What is found is the definition at j, the marks are those of the first j. Assumes nothing.
use mathlib.Core.Path.{refl}
use native.Mathlib.Omega.{arith}
use Rattle.reduced.proofs.Distinct.{twice_next}
use Rattle.reduced.proofs.Put.{put_next}
use Rattle.reduced.proofs.indices.any_twice.Goals as goal

pub loop-original-preserved : goal.loop-original-preserved
loop-original-preserved c = (twice_next c.args.variable_map.now c.requires c.loop-original.original-index (omega arith) c.loop-original.invariant.1 c.from-index.ensures c.loop-original.invariant.0, put_next _ _ _ _ c.loop-original.invariant.1 c.from-index.ensures refl)
