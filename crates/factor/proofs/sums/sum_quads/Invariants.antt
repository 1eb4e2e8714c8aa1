-- `factor::sums::sum_quads` meets its contract. Each running sum is its definition at q. Assumes nothing.
use mathlib.Core.Path.{◌≡◌}
use Rattle.factor.specs.Norms.{lane_to}
use Rattle.factor.proofs.sums.sum_quads.Given as goal

abbrev pub invariant-loop-q : goal.invariant-loop-q
invariant-loop-q l = (l.s0 ≡ lane_to l.values 0 l.q) × (l.s1 ≡ lane_to l.values 1 l.q) × (l.s2 ≡ lane_to l.values 2 l.q) × (l.s3 ≡ lane_to l.values 3 l.q)
