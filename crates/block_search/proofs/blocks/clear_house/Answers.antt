-- `block_search::blocks::clear_house` meets its contract. Assumes nothing.
use mathlib.Core.Path.{◌∙◌}
use native.Mathlib.Omega.{arith}
use lib.ListN.{length}
use Rattle.laws.specs.Lists.{elem_z}
use Rattle.tables.specs.Entries.{listed}
use Rattle.tables.proofs.Checks.{hall_accepted}
use Rattle.block_search.specs.Blocks.{block_moves}
use Rattle.block_search.proofs.Turns.{first_low, blocks_low}
use Rattle.block_search.proofs.blocks.clear_house.Goals as goal

pub search_blocks-requires : goal.search_blocks-requires
search_blocks-requires c = record { house_fits = record { width_some = c.requires.width_some; width_few = c.requires.width_few; bytes_many = c.first_choice.auto.b ∙ c.requires.choice_many; bytes_low = rw c.first_choice.ensures (first_low c.args.hall.n c.args.request.pins.wagons.now c.args.request.pins.stores.now c.args.request.present.now c.requires.pins); space_room = c.requires.space_room }; sizes_in_bounds = (c.requires.falls_room, c.requires.blocks_few) }

pub search_moving-requires : goal.search_moving-requires
search_moving-requires c = let m = c.first_choice.auto.b ∙ c.requires.choice_many in record { width_some = c.requires.width_some; width_few = c.requires.width_few; bytes_many = c.search_blocks.auto.b ∙ m; bytes_low = rw c.search_blocks.ensures.0 (blocks_low c.args.hall.n (listed c.args.hall.table) (elem_z c.args.hall.c.now) c.args.request.width (block_moves c.args.request.pins.wagons.now c.args.request.blocks.sizes.now c.args.request.blocks.wagons.now) c.first_choice.new.b (hall_accepted c.args.hall.judged) c.requires.width_some (rw c.first_choice.ensures (first_low c.args.hall.n c.args.request.pins.wagons.now c.args.request.pins.stores.now c.args.request.present.now c.requires.pins)) m (length c.args.request.blocks.sizes.now)); space_room = omega (arith, c.requires.space_room, c.search_blocks.auto.workspace) }
