-- A count of draws that 19 doesn't refuse. Assumes nothing.
use Prim.Native.Nat.{ℕ, ◌≤◌}
use mathlib.Core.Path.{◌≡◌}
use mathlib.Core.Bool.{false}
use native.Mathlib.Omega.{arith}
use borrow.Author.Tests.{ltb-false, eqb-false}
use lib.Dec.{ltb, eqb}
use Rattle.std.proofs.lemmas.Bool.{or_parts}
use Rattle.limits.specs.Limits.{most_draws}
use Rattle.run_limits.specs.Draws.{bad_draws}

pub draws_some : (k : ℕ) → bad_draws k ≡ false → 1 ≤ k
unfolding bad_draws
draws_some k e = omega (arith, eqb-false k 0 (or_parts (eqb k 0) (ltb most_draws k) e).0)

pub draws_few : (k : ℕ) → bad_draws k ≡ false → k ≤ most_draws
unfolding bad_draws
draws_few k e = ltb-false most_draws k (or_parts (eqb k 0) (ltb most_draws k) e).1
