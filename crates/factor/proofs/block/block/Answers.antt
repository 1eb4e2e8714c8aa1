-- `factor::block::block` meets its contract. The sums are the definition at e. Assumes nothing.
use mathlib.Core.Path.{◌≡◌, ◌∙◌}
use native.Mathlib.Omega.{arith}
use lib.ListN.{length}
use Rattle.factor.proofs.Written.{block_copied}
use Rattle.factor.proofs.block.block.Goals as goal

pub returns : goal.returns
returns g c = let e : c.loop-e.e ≡ length c.args.row.cols.now = omega arith in c.copy.ensures ∙ block_copied _ g.row.N _ _ c.requires.out_len (rw e at c.loop-e.invariant)
