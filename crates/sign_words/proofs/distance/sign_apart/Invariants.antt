use Prim.Native.Nat.{ℕ, ◌-◌, ◌*◌, ◌≤◌, ◌<◌}
use mathlib.Core.Path.{◌≡◌}
use Rattle.sign_words.specs.Packed.{sign_in}
use Rattle.sign_words.proofs.distance.sign_apart.Given as goal

abbrev pub invariant-loop-k : goal.invariant-loop-k
invariant-loop-k l = (l.at ≡ l.from - 64 * l.k) × ((j : ℕ) → l.from ≤ j → j < 64 * l.k → sign_in l.a j ≡ sign_in l.b j)
