-- `factor::sums::add_squares` meets its contract. The total is the definition at i. Assumes nothing.
use mathlib.Core.Path.{◌≡◌}
use Rattle.factor.specs.Norms.{add_squares_to}
use Rattle.factor.proofs.sums.add_squares.Given as goal

abbrev pub invariant-loop-i : goal.invariant-loop-i
invariant-loop-i l = l.total ≡ add_squares_to l.values l.start l.sum l.i
