-- `row_gradient::pair4::gradients` meets its contract. Both rows' sums are the definition at e. Assumes nothing.
use mathlib.Core.Path.{◌∙◌}
use native.Mathlib.Nat.{add-zero}
use Rattle.factor.proofs.Written.{block_copied}
use Rattle.factor.proofs.ByColumns.{block_next}
use Rattle.row_gradient.proofs.ByColumns.{whole_block}
use Rattle.row_gradient.proofs.pair4.gradients.Goals as goal

pub loop-e-preserved : goal.loop-e-preserved
loop-e-preserved c = ((rw c.from-k.ensures at c.add_entry.ensures) ∙ (rw add-zero at (block_next _ _ _ _ _ _ 0 4 _ _ c.loop-e.invariant.0)), (rw c.from-l.ensures at c.add_entry-in-loop-e.ensures) ∙ (rw add-zero at (block_next _ _ _ _ _ _ 0 4 _ _ c.loop-e.invariant.1)))

pub returns : goal.returns
returns c = record { g_after = c.copy.ensures ∙ block_copied _ 4 _ _ c.requires.g_len.0 c.subtract_rest.ensures ∙ whole_block _ _ _ _ 4; h_after = c.copy-2.ensures ∙ block_copied _ 4 _ _ c.requires.g_len.1 c.subtract_rest-2.ensures ∙ whole_block _ _ _ _ 4 }
