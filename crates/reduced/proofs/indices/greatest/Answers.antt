-- `reduced::indices::greatest` meets its contract. The most so far is the definition at j. Assumes nothing.
use mathlib.Core.Path.{◌∙◌}
use Rattle.laws.proofs.UpTo.{up_to_next}
use Rattle.reduced.proofs.indices.greatest.Goals as goal

pub loop-index-preserved : goal.loop-index-preserved
loop-index-preserved c = c.max-most.ensures ∙ up_to_next _ _ _ _ c.loop-index.invariant
