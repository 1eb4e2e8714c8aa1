-- The float bound of every accepted (H, c) is finite and at most the cost of every choice. Assumes nothing.
use mathlib.Core.List.{List}
use Prim.Native.Nat.{ℕ}
use lib.Dec.{lit≤}
use lib.IntN.{ℤ}
use Rattle.limits.specs.Limits.{most_wagons, most_entries, most_magnitude}
use Rattle.tables.specs.Table.{Table}
use Rattle.tables.specs.Check.{Hall}
use Rattle.float_bound.specs.Below.{AtMostEighths}
use Rattle.float_bound.proofs.Theorem.{bound_below_cost}
use Rattle.finalize.specs.Finalize.{cost_of, float_bound}

pub bounded : {n : ℕ} {h : Table} {c : ℕ → ℤ} → Hall most_wagons most_entries most_magnitude n h c → (b : List ℕ) → AtMostEighths (float_bound n h c) (cost_of n h c b)
unfolding float_bound
bounded hall b = bound_below_cost hall (lit≤ tt) (lit≤ tt) b
