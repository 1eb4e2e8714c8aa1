-- `exhaustive::walk::walk` meets its contract. Assumes nothing.
use mathlib.Core.Path.{refl}
use native.Mathlib.Omega.{arith}
use mir.Facts.{to_z-of_z}
use Rattle.exhaustive.proofs.Standing.{same_stands, end_stands, low_stands, can_raise, more_fits, more_is, high_stands, both_stand}
use Rattle.exhaustive.proofs.walk.+walk.Goals as goal

pub returns-then-d-eq0 : goal.returns-then-d-eq0
returns-then-d-eq0 t c =
    let v = rw (to_z-of_z c.ranges.cost) at c.visit.ensures in
    λ s. end_stands c.if-d-eq0.true s v.0 v.1 v.2

pub returns-then-d-eq1 : goal.returns-then-d-eq1
unfolding same_stands
returns-then-d-eq1 t c = λ s. c.visit_two.ensures (same_stands (to_z-of_z c.ranges.cost) s)

pub walk-low-requires : goal.walk-low-requires
walk-low-requires t c = (omega arith, low_stands c.if-d-eq0.false c.requires (to_z-of_z c.ranges.cost))

pub raise-requires : goal.raise-requires
raise-requires t c = (can_raise c.if-d-eq0.false c.requires, refl)

pub overflow_add-more : goal.overflow_add-more
overflow_add-more t c = more_fits c.if-d-eq0.false c.requires

pub walk-requires : goal.walk-requires
unfolding low_stands high_stands
walk-requires t c =
    let z = c.if-d-eq0.false in
    let w = c.walk-low.ensures (low_stands z c.requires (to_z-of_z c.ranges.cost)) in
    (omega arith, high_stands z c.requires w c.raise.ensures (more_is z c.requires))

pub returns : goal.returns
unfolding low_stands high_stands
returns t c =
    let z = c.if-d-eq0.false in
    λ s. let w = c.walk-low.ensures (low_stands z s (to_z-of_z c.ranges.cost)) in
    both_stand z s w.visited_on (c.walk.ensures (high_stands z s w c.raise.ensures (more_is z s)))
