-- What an iterator over the numbers below n yields, mapped by a closure that answers f k at k.
-- Assumes nothing.
use mathlib.Core.Path.{◌≡◌}
use mathlib.Core.List.{map}
use Prim.Native.Nat.{ℕ}
use native.Mathlib.Omega.{arith}
use Rattle.std.specs.List.{range_with_len}
use Rattle.std.specs.Fn.{Mut, Called}
use Rattle.std.specs.Iterator.Adapters.{map_source, map_callee}
use Rattle.std.specs.declared.iter.Map.{Map}
use Rattle.std.specs.declared.ops.Range.{Range}
use Rattle.std.proofs.iter.Yields.{nat_range_steps}
use Rattle.std.proofs.lemmas.Iterator.{YieldsList, YieldsList-from_range, YieldsList-from_map, maps}

pub ranged_map : {F R : Type 0} {g : Mut F (ℕ × Unit {0}) R} {s : Map (Range ℕ) F} {c : F} (n : ℕ) (f : ℕ → R) → map_source s ≡ record { start = 0; end = n } → map_callee s ≡ c
    → ((k : ℕ) (r : R) (q : F) → Called g c (k, tt) r q → (q ≡ c) × (r ≡ f k)) → YieldsList (maps nat_range_steps g) (λ r. r) s (map f (range_with_len 0 n))
ranged_map {g = g} n f source callee closure = YieldsList-from_map g f (YieldsList-from_range 0 n n source (omega arith)) callee closure
