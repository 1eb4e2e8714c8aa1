-- `rounding::set_signs` meets its contract. The first i signs are written. Assumes nothing.
use mathlib.Core.Path.{◌≡◌}
use Rattle.laws.specs.Lists.{over, tabulate}
use Rattle.rounding.specs.Rounding.{rounded_sign}
use Rattle.rounding.proofs.set_signs.Given as goal

abbrev pub invariant-loop-i : goal.invariant-loop-i
invariant-loop-i l = l.signs ≡ over (tabulate (rounded_sign l.factor l.rank l.direction) l.i) l.initial.signs
