-- `block_search::blocks::first_choice` meets its contract. Assumes nothing.
use Rattle.block_search.proofs.Turns.{first_made}
use Rattle.block_search.proofs.blocks.first_choice.Goals as goal

pub returns : goal.returns
returns c = first_made c.args.n c.args.pins.wagons.now c.args.pins.stores.now c.args.present.now c.args.b.now c.requires.0.present_there c.requires.1 c.copy_states.ensures (c.put_each.ensures 0)
