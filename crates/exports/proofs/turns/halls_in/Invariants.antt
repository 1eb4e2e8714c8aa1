-- `exports::turns::halls_in` meets its contract. Assumes nothing.
use mathlib.Core.Path.{◌≡◌}
use lib.ListN.{replicate}
use Rattle.laws.specs.Lists.{fill}
use Rattle.limits.specs.Limits.{most_runs}
use Rattle.several_runs.specs.Turn.{no_hall}
use Rattle.exports.specs.TurnWords.{sizes_at}
use Rattle.exports.proofs.turns.halls_in.Given as goal

abbrev pub invariant-loop-i : goal.invariant-loop-i
invariant-loop-i l = (l.halls ≡ fill (sizes_at l.sizes) l.i (replicate most_runs no_hall))
