-- A step leaves at most all rows as they were. Assumes nothing.
use Prim.Native.Nat.{ℕ, ◌≤◌}
use mathlib.Core.List.{List}
use native.Mathlib.Omega.{arith}
use lib.Ieee.{Float}
use Rattle.ieee.specs.Floats.{zero64}
use Rattle.coordinate_sweep.proofs.Standing.{standing_few}
use Rattle.step_rules.specs.declared.StepRule.{StepRule}
use Rattle.step_rules.specs.declared.StepRule.TheVariants.{Grad, GradAdv, Coord, CoordNoStep, CoordMomentum}
use Rattle.step_rules.specs.Rule.{standing_in}

pub standing_in_few : (rule : StepRule) (cols : List ℕ) (values : List Float) (starts : List ℕ) (m rank : ℕ) (factor : List Float)
    → standing_in rule cols values starts m rank factor ≤ m
unfolding standing_in
standing_in_few (Grad alpha) cols values starts m rank factor = omega arith
standing_in_few (GradAdv alpha) cols values starts m rank factor = omega arith
standing_in_few (Coord alpha) cols values starts m rank factor = omega arith
standing_in_few CoordNoStep cols values starts m rank factor = standing_few cols values starts rank zero64 factor m
standing_in_few (CoordMomentum beta) cols values starts m rank factor = standing_few cols values starts rank beta factor m
