-- `factor::sums::dot` meets its contract. The sum is the definition at i. Assumes nothing.
use mathlib.Core.Path.{◌≡◌}
use Rattle.factor.specs.Norms.{dot_to}
use Rattle.factor.proofs.sums.dot.Given as goal

abbrev pub invariant-loop-i : goal.invariant-loop-i
invariant-loop-i l = l.sum ≡ dot_to l.a l.b l.i
