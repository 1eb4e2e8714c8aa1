-- `block_search::blocks::search_blocks` meets its contract. Assumes nothing.
use mathlib.Core.Path.{ap, ◌∙◌}
use mathlib.Core.List.{List}
use native.Mathlib.Omega.{arith}
use Prim.Native.Nat.{ℕ, ◌+◌}
use Rattle.laws.specs.Lists.{elem, elem_z}
use Rattle.laws.proofs.Integer.{held}
use Rattle.tables.specs.Entries.{listed}
use Rattle.tables.proofs.Checks.{hall_accepted}
use Rattle.pinned.proofs.Steps.{cost_next}
use Rattle.block_search.specs.Blocks.{named, free_among, block_moves, searched_from, fall_from}
use Rattle.block_search.proofs.Held.{low_after}
use Rattle.block_search.proofs.Turns.{block_ends, total_next, fall_next, choice_next}
use Rattle.block_search.proofs.blocks.search_blocks.Goals as goal

pub overflow_add-at : goal.overflow_add-at
overflow_add-at c = omega (arith, block_ends _ c.loop-k-test.true c.args.blocks.wagons_there c.loop-k.invariant.0 c.block-block.ensures.many)

pub loop-k-preserved : goal.loop-k-preserved
loop-k-preserved c = (total_next (elem c.args.blocks.lent.sizes.now) c.loop-k.k c.loop-k.invariant.0 (ap (λ (i : ℕ). c.loop-k.at + i) c.block-block.ensures.many), choice_next c.args.hall.n (listed c.args.hall.table) (elem_z c.args.hall.c.now) c.args.width (block_moves c.args.pinned.now c.args.blocks.lent.sizes.now c.args.blocks.lent.wagons.now) c.args.b.now c.loop-k.k _ c.loop-k.invariant.1 (c.search_moving.ensures.1 ∙ ap (λ (l : List ℕ). searched_from c.args.hall.n (listed c.args.hall.table) (elem_z c.args.hall.c.now) c.args.width (free_among c.args.pinned.now (named l)) c.loop-k.b) c.block-block.ensures.wagons), rw (held _ c.search_moving.type_inv) (cost_next _ _ _ _ (omega (arith, c.requires.sizes_in_bounds.0, c.loop-k-test.true)) c.loop-k.invariant.2 (fall_next c.args.hall.n (listed c.args.hall.table) (elem_z c.args.hall.c.now) c.args.width (block_moves c.args.pinned.now c.args.blocks.lent.sizes.now c.args.blocks.lent.wagons.now) c.args.b.now c.loop-k.k _ c.loop-k.invariant.1 (c.search_moving.ensures.0 ∙ ap (λ (l : List ℕ). fall_from c.args.hall.n (listed c.args.hall.table) (elem_z c.args.hall.c.now) c.args.width (free_among c.args.pinned.now (named l)) c.loop-k.b) c.block-block.ensures.wagons))), c.search_moving.auto.b ∙ c.loop-k.invariant.3, rw c.search_moving.ensures.1 (low_after c.args.hall.n _ c.loop-k.b c.loop-k.invariant.4 (hall_accepted c.args.hall.judged) c.args.width c.requires.house_fits.width_some))
