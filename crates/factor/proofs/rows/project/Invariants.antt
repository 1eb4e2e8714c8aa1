-- `factor::rows::project` meets its contract. The factor is the definition at i. Assumes nothing.
use mathlib.Core.Path.{◌≡◌}
use Rattle.laws.specs.Turns.{up_to}
use Rattle.factor.specs.Vectors.{unit_row}
use Rattle.factor.proofs.rows.project.Given as goal

abbrev pub invariant-loop-i : goal.invariant-loop-i
invariant-loop-i l = l.factor ≡ up_to (unit_row l.rank) l.i l.initial.factor
