use Rattle.tables.proofs.Checks.{hall_accepted}
use Rattle.pinned.proofs.reduce.reduce.Goals as goal

pub free_wagons-wagons-requires : goal.free_wagons-wagons-requires
free_wagons-wagons-requires c = ((hall_accepted c.args.hall.judged).wagons, c.requires.0, c.requires.1)
