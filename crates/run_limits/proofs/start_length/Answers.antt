-- `run_limits::start_length` meets its contract. By the start's case. Assumes nothing.
use native.Mathlib.Nat.{mul-le-mul}
use native.Mathlib.Omega.{arith}
use Rattle.run_limits.specs.Start.{start_length}
use Rattle.run_limits.proofs.Starts.{counted}
use Rattle.run_limits.proofs.start_length.Goals as goal

pub returns-in-Rows : goal.returns-in-Rows
unfolding start_length
returns-in-Rows c = (rw c.in-Rows.is at (counted _ _ c.args.rank c.args.m c.start_of.ensures), omega (arith, mul-le-mul c.requires.0 c.requires.1))

pub returns-in-Signs : goal.returns-in-Signs
unfolding start_length
returns-in-Signs c = (rw c.in-Signs.is at (counted _ _ c.args.rank c.args.m c.start_of.ensures), omega arith)

pub returns-in-SignsAndDraws : goal.returns-in-SignsAndDraws
unfolding start_length
returns-in-SignsAndDraws c =
    (rw c.in-SignsAndDraws.is at (counted _ _ c.args.rank c.args.m c.start_of.ensures), omega (arith, mul-le-mul c.requires.0 c.requires.1))
