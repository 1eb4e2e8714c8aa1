-- `row_gradient::ranks::one_block` meets its contract. By what its callee ensures. Assumes nothing.
use mathlib.Core.Path.{◌∙◌}
use Rattle.row_gradient.proofs.ByColumns.{whole_block}
use Rattle.row_gradient.proofs.ranks.one_block.Goals as goal

pub returns : goal.returns
returns g c = rw c.requires.g_len (c.block.ensures ∙ whole_block _ _ _ _ g.row.N)
