-- `factor::sums::dot_four` meets its contract. Each sum is the definition at i. Assumes nothing.
use mathlib.Core.Path.{◌≡◌}
use Rattle.factor.specs.Norms.{dot_to}
use Rattle.factor.proofs.sums.dot_four.Given as goal

abbrev pub invariant-loop-i : goal.invariant-loop-i
invariant-loop-i l = (l.first ≡ dot_to l.a l.b l.i) × (l.second ≡ dot_to l.a l.c l.i) × (l.third ≡ dot_to l.a l.d l.i) × (l.fourth ≡ dot_to l.a l.e l.i)
