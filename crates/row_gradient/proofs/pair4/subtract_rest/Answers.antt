-- `row_gradient::pair4::subtract_rest` meets its contract. The sums are the definition at e. Assumes nothing.
use mathlib.Core.Path.{◌∙◌}
use native.Mathlib.Nat.{add-zero}
use Rattle.factor.proofs.ByColumns.{block_next}
use Rattle.row_gradient.proofs.pair4.subtract_rest.Goals as goal

pub loop-e-preserved : goal.loop-e-preserved
loop-e-preserved c = (rw c.from-k.ensures at c.add_entry.ensures) ∙ (rw add-zero at (block_next _ _ _ _ _ _ 0 4 _ _ c.loop-e.invariant))
