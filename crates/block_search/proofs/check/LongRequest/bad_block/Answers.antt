-- `block_search::check::LongRequest::bad_block` meets its contract. Assumes nothing.
use mathlib.Core.Path.{sym, ap, ◌∙◌}
use native.Mathlib.Omega.{arith}
use lib.ListN.{length}
use Prim.Native.Nat.{ℕ, ◌+◌}
use Rattle.laws.specs.Lists.{elem}
use Rattle.laws.proofs.Any.{below_at, below_passed}
use Rattle.block_search.specs.Blocks.{block_of}
use Rattle.block_search.specs.Numbers.{bad_list, bad_block}
use Rattle.block_search.proofs.Turns.{block_ends, total_next}
use Rattle.block_search.proofs.check.LongRequest.bad_block.Goals as goal

pub overflow_add-at : goal.overflow_add-at
overflow_add-at c = omega (arith, block_ends _ c.loop-k-test.true c.args.blocks.wagons_there c.loop-k.invariant.0 c.block-block.ensures.many)

pub returns-then-bad_list : goal.returns-then-bad_list
unfolding bad_block
returns-then-bad_list c = sym (below_at (λ j. bad_list c.args.self.n (block_of c.args.blocks.lent.sizes.now c.args.blocks.lent.wagons.now j)) (length c.args.blocks.lent.sizes.now) c.loop-k.k c.loop-k-test.true (ap (bad_list c.args.self.n) (sym c.block-block.ensures.wagons) ∙ sym c.bad_list.ensures ∙ c.if-bad_list.true))

pub loop-k-preserved : goal.loop-k-preserved
loop-k-preserved c = (total_next (elem c.args.blocks.lent.sizes.now) c.loop-k.k c.loop-k.invariant.0 (ap (λ (i : ℕ). c.loop-k.at + i) c.block-block.ensures.many), below_passed _ _ c.loop-k.invariant.1 (ap (bad_list c.args.self.n) (sym c.block-block.ensures.wagons) ∙ sym c.bad_list.ensures ∙ c.if-bad_list.false))
