-- `exports::turns::put_runs` meets its contract. Assumes nothing.
use Rattle.exports.proofs.Turning.{Put}
use Rattle.exports.proofs.turns.put_runs.Given as goal

abbrev pub invariant-loop-i : goal.invariant-loop-i
invariant-loop-i l = Put l.runs l.initial.words l.words l.i
