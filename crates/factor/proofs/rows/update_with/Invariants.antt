-- `factor::rows::update_with` meets its contract. The elements before j are changed, the others are as they were. Assumes nothing.
use mathlib.Core.Path.{◌≡◌}
use Prim.Native.Nat.{ℕ, ◌<◌, ◌≤◌}
use Rattle.ieee.specs.Floats.{at}
use Rattle.factor.proofs.rows.update_with.Given as goal

abbrev pub invariant-loop-j : goal.invariant-loop-j
invariant-loop-j g l = ((k : ℕ) → k < l.j → goal.F-post g l.f (at l.initial.acc k) (at l.source k) (at l.acc k)) × ((k : ℕ) → l.j ≤ k → at l.acc k ≡ at l.initial.acc k)
