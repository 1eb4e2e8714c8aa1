-- `factor::sums::sum` meets its contract. The sum is the definition at the index. Assumes nothing.
use mathlib.Core.Path.{◌≡◌}
use Rattle.factor.specs.Norms.{sum_to}
use Rattle.factor.proofs.sums.sum.Given as goal

abbrev pub invariant-loop-x : goal.invariant-loop-x
invariant-loop-x l = l.total ≡ sum_to l.a l.x-index
