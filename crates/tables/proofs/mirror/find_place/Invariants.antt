-- `tables::mirror::find_place` meets its contract.
use Rattle.tables.specs.Check.{place_key}
use Rattle.laws.specs.Lists.{elem}
use Prim.Native.Nat.{ℕ, ◌≤◌, ◌<◌, ◌-◌}
use Rattle.tables.proofs.mirror.find_place.Given as goal

abbrev pub invariant-loop-low : goal.invariant-loop-low
invariant-loop-low l = (l.low ≤ l.high) × (l.high ≤ l.count) × ((j : ℕ) → j < l.low → place_key (elem l.rows) (elem l.cols) j < l.key)
    × ((j : ℕ) → l.high ≤ j → j < l.count → l.key ≤ place_key (elem l.rows) (elem l.cols) j)

abbrev pub decreases-loop-low : goal.decreases-loop-low
decreases-loop-low l = l.high - l.low
