use Rattle.laws.proofs.Made.{tabulate_take}
use lib.Seq.{length-take-le}
use Rattle.pinned.proofs.lift.copy_states.Goals as goal

pub returns : goal.returns
returns c = rw (c.copy.ensures, tabulate_take c.args.states.now c.args.n 0 c.requires.0, length-take-le c.args.n c.args.states.now c.requires.0)
