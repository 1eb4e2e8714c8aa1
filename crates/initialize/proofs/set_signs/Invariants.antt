-- `initialize::set_signs` meets its contract. The factor is the definition at i. Assumes nothing.
use mathlib.Core.Path.{◌≡◌}
use Prim.Native.Nat.{◌*◌}
use lib.ListN.{set}
use Rattle.ieee.specs.Floats.{at, zero64}
use Rattle.laws.specs.Turns.{up_to}
use Rattle.initialize.specs.Initialize.{sign_by}
use lib.Ieee
use Rattle.initialize.proofs.set_signs.Given as goal

abbrev pub invariant-loop-i : goal.invariant-loop-i
invariant-loop-i l = l.factor ≡ up_to (λ k f. set f (k * l.rank) (sign_by (Ieee.le zero64 (at l.signs k)))) l.i l.initial.factor
