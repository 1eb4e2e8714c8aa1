use Prim.Native.Nat.{◌-◌, ◌≤◌}
use lib.ListN.{length}
use Rattle.local_search.specs.Level.{level_of}
use Rattle.local_search.specs.Children.{parent_choice, listed_children, Kept}
use Rattle.local_search.proofs.children.expand_parent.Given as goal

abbrev pub invariant-loop-i : goal.invariant-loop-i
invariant-loop-i l = (l.from ≤ l.m) × Kept l.width (level_of (length l.parent.row.now) l.count l.initial.objectives l.initial.signs) (listed_children l.parent.changes.now l.from (parent_choice l.parent)) (level_of (length l.parent.row.now) l.kept l.objectives l.signs) l.kept

abbrev pub decreases-loop-i : goal.decreases-loop-i
decreases-loop-i l = l.m - l.from
