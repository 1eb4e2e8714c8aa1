use Rattle.pinned.specs.Pinned.{free_entry}
use Rattle.laws.specs.Lists.{elem}
use Prim.Native.Nat.{ℕ, ◌≤◌, ◌<◌}
use mathlib.Core.Path.{◌≡◌}
use mathlib.Core.Bool.{false}
use Rattle.pinned.proofs.entries.free_end.Given as goal

abbrev pub invariant-loop-l : goal.invariant-loop-l
invariant-loop-l l = (l' : ℕ) → l.l ≤ l' → l' < l.from.table.count → free_entry l.from.places.now (elem l.from.table.rows.now) (elem l.from.table.cols.now) l' ≡ false
