-- `exports::turns::runs_in` meets its contract. Assumes nothing.
use mathlib.Core.Path.{◌≡◌}
use lib.ListN.{replicate}
use Rattle.laws.specs.Lists.{fill}
use Rattle.limits.specs.Limits.{most_runs}
use Rattle.several_runs.specs.Turn.{blank}
use Rattle.exports.specs.TurnWords.{record_at}
use Rattle.exports.proofs.turns.runs_in.Given as goal

abbrev pub invariant-loop-i : goal.invariant-loop-i
invariant-loop-i l = (l.runs ≡ fill (record_at l.words) l.i (replicate most_runs blank))
