-- `block_search::check::LongRequest::bad_block` meets its contract. Assumes nothing.
use mathlib.Core.Path.{◌≡◌}
use mathlib.Core.Bool.{false}
use Rattle.laws.specs.Sum.{total}
use Rattle.laws.specs.Lists.{elem, any_below}
use Rattle.block_search.specs.Blocks.{block_of}
use Rattle.block_search.specs.Numbers.{bad_list}
use Rattle.block_search.proofs.check.LongRequest.bad_block.Given as goal

abbrev pub invariant-loop-k : goal.invariant-loop-k
invariant-loop-k l = (l.at ≡ total l.k (elem l.blocks.lent.sizes.now)) × (any_below l.k (λ j. bad_list l.self.n (block_of l.blocks.lent.sizes.now l.blocks.lent.wagons.now j)) ≡ false)
