-- `exhaustive::walk::put_digits` meets its contract. Assumes nothing.
use Prim.Native.Nat.{◌/◌, ◌^◌}
use mathlib.Core.Path.{◌≡◌}
use Rattle.laws.specs.Lists.{over, tabulate}
use Rattle.std.specs.Int.{bit_at}
use Rattle.exhaustive.proofs.walk.put_digits.Given as goal

abbrev pub invariant-loop-byte : goal.invariant-loop-byte
invariant-loop-byte l = (l.x ≡ l.k / 2 ^ l.byte-index) × (l.front ≡ over (tabulate (bit_at l.k) l.byte-index) l.initial.front)
