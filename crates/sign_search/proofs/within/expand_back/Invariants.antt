use lib.ListN.{length}
use Rattle.sign_words.specs.Packed.{unpacked}
use Rattle.local_search.specs.Level.{level_of}
use Rattle.local_search.specs.SignSearch.{improving}
use Rattle.local_search.specs.Children.{parent_choice, flip_w, Kept}
use Rattle.sign_search.specs.Within.{goes_back}
use Rattle.sign_search.proofs.within.expand_back.Given as goal

abbrev pub invariant-loop-i : goal.invariant-loop-i
invariant-loop-i l = Kept l.width (level_of (length l.parent.row.now) l.count l.initial.objectives l.initial.signs)
    (improving (goes_back l.parent.changes.now l.current (unpacked (length l.current) l.origin)) (flip_w l.parent.changes.now) l.i (parent_choice l.parent)) (level_of (length l.parent.row.now) l.kept l.objectives l.signs) l.kept
