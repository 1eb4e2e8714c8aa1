-- `reduced::lift_solution::clear` meets its contract: the part that is filled is the first places. Assumes nothing.
use Rattle.reduced.proofs.Put.{filled}
use Rattle.reduced.proofs.lift_solution.clear.Goals as goal

pub returns : goal.returns
returns c = filled _ c.args.size c.args.lifted.now c.requires (c.fill.ensures.after (λ y h. h))
