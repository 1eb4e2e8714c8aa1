-- `exhaustive::walk::visit_two` meets its contract. Assumes nothing.
use native.Mathlib.Omega.{arith}
use mir.Facts.{to_z-of_z}
use Rattle.exhaustive.proofs.Standing.{more_is, two_stand}
use Rattle.exhaustive.proofs.walk.visit_two.Goals as goal

pub returns : goal.returns
returns c =
    let low = rw (to_z-of_z c.ranges.cost) at c.visit-low.ensures in
    let one = c.requires.0 in
    λ s. two_stand one s low.0 low.1 low.2 (more_is (λ z. omega (arith, one, z)) s) c.visit.ensures.0 c.visit.ensures.1 c.visit.ensures.2
