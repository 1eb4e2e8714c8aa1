use Prim.Native.Nat.{ℕ, ◌≤◌, ◌<◌}
use mathlib.Core.Bool.{false}
use mathlib.Core.Path.{◌≡◌}
use Rattle.local_search.specs.Enters.{below_limit}
use Rattle.local_search.proofs.children.next_child.Given as goal

abbrev pub invariant-loop-i : goal.invariant-loop-i
invariant-loop-i l = (j : ℕ) → l.from ≤ j → j < l.i → below_limit l.parent.changes.now l.parent.objective (l.limit) j ≡ false
