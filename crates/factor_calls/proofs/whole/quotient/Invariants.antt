-- `factor_calls::whole::quotient` meets its contract. Each sum is the definition at i. Assumes nothing.
use mathlib.Core.Path.{◌≡◌}
use Rattle.factor.specs.Norms.{dot_to}
use Rattle.factor_calls.proofs.whole.quotient.Given as goal

abbrev pub invariant-loop-i : goal.invariant-loop-i
invariant-loop-i l = (l.above ≡ dot_to l.sums l.v l.i) × (l.below ≡ dot_to l.v l.v l.i)
