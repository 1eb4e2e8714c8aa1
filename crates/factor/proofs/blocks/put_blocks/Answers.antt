-- `factor::blocks::put_blocks` meets its contract. The columns before block b are written. Assumes nothing.
use mathlib.Core.Path.{◌∙◌}
use native.Mathlib.Omega.{arith}
use Rattle.factor.proofs.Written.{next_block, block_next_put}
use Rattle.factor.proofs.blocks.put_blocks.Goals as goal

pub loop-b-preserved : goal.loop-b-preserved
loop-b-preserved g c = rw (next_block c.args.first c.loop-b.b g.row.N) ((rw c.loop-b.auto.g at c.put_block.ensures) ∙ block_next_put _ _ _ _ _ _ (omega arith) (omega arith) c.loop-b.invariant)
