use mathlib.Core.List.{[]}
use lib.ListN.{length}
use Rattle.local_search.specs.Level.{level_of}
use Rattle.local_search.specs.SignSearch.{improving, improves_c}
use Rattle.local_search.specs.Children.{change_of, flip_w, parent_choice, Appended}
use Rattle.local_search.proofs.children.first_level.Given as goal

abbrev pub invariant-loop-i : goal.invariant-loop-i
invariant-loop-i l = Appended [] (improving (improves_c (change_of l.start.changes.now)) (flip_w l.start.changes.now) l.i (parent_choice l.start)) (level_of (length l.start.row.now) l.count l.objectives l.signs) l.count l.i
