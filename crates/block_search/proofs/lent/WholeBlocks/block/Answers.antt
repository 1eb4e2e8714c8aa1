-- `block_search::lent::WholeBlocks::block` meets its contract. Assumes nothing.
use mathlib.Core.Path.{ap}
use native.Mathlib.Omega.{arith}
use Prim.Native.Nat.{ℕ, ◌+◌}
use Rattle.block_search.proofs.Turns.{block_ends, part_is}
use Rattle.block_search.proofs.lent.WholeBlocks.block.Goals as goal

pub overflow_add-end : goal.overflow_add-end
overflow_add-end c = omega (arith, block_ends _ c.requires.0 c.args.self.wagons_there c.requires.1 c.from.ensures)

pub offset_bounds-self-at : goal.offset_bounds-self-at
offset_bounds-self-at c = omega (arith, block_ends _ c.requires.0 c.args.self.wagons_there c.requires.1 c.from.ensures)

pub slice_bounds-result-end : goal.slice_bounds-result-end
slice_bounds-result-end c = omega (arith, block_ends _ c.requires.0 c.args.self.wagons_there c.requires.1 c.from.ensures)

pub returns-clause-wagons : goal.returns-clause-wagons
returns-clause-wagons c = part_is c.args.self.lent.sizes.now c.args.self.lent.wagons.now c.args.k c.requires.1 (ap (λ (i : ℕ). c.args.at + i) c.from.ensures)
