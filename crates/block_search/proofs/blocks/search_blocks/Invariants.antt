-- `block_search::blocks::search_blocks` meets its contract. Assumes nothing.
use mathlib.Core.Path.{◌≡◌}
use lib.ListN.{length}
use Rattle.laws.specs.Sum.{total}
use Rattle.laws.specs.Lists.{elem, elem_z, over, tabulate}
use Rattle.tables.specs.Entries.{listed}
use Rattle.block_search.specs.Blocks.{block_moves, choice_from, block_fall}
use Rattle.block_search.specs.Clauses.{Low}
use Rattle.block_search.proofs.blocks.search_blocks.Given as goal

abbrev pub invariant-loop-k : goal.invariant-loop-k
invariant-loop-k l = (l.at ≡ total l.k (elem l.blocks.lent.sizes.now))
    × (l.b ≡ choice_from l.hall.n (listed l.hall.table) (elem_z l.hall.c.now) l.width (block_moves l.pinned l.blocks.lent.sizes.now l.blocks.lent.wagons.now) l.initial.b l.k)
    × (l.falls ≡ over (tabulate (block_fall l.hall.n (listed l.hall.table) (elem_z l.hall.c.now) l.width (block_moves l.pinned l.blocks.lent.sizes.now l.blocks.lent.wagons.now) l.initial.b) l.k) l.initial.falls)
    × (length l.b ≡ l.hall.n) × Low l.b
