-- `tables::bound::magnitude_sum` meets its contract.
use mathlib.Core.Path.{◌≡◌}
use Rattle.laws.specs.Lists.{elem_z}
use Rattle.tables.specs.Bound.{magnitude_sum}
use Rattle.tables.proofs.bound.magnitude_sum.Given as goal

abbrev pub invariant-loop-k : goal.invariant-loop-k
invariant-loop-k l = l.magnitude ≡ magnitude_sum (elem_z l.values) l.k
