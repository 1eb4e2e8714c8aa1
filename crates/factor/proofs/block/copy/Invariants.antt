-- `factor::block::copy` meets its contract. The first j sums are copied. Assumes nothing.
use mathlib.Core.Path.{◌≡◌}
use Rattle.ieee.specs.Floats.{at}
use Rattle.laws.specs.Rows.{map_first}
use Rattle.factor.proofs.block.copy.Given as goal

abbrev pub invariant-loop-j : goal.invariant-loop-j
invariant-loop-j g l = l.out ≡ map_first (λ k old. at l.sums k) l.j l.initial.out
