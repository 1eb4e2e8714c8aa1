use Prim.Native.Nat.{suc, ◌+◌, ◌≤◌}
use native.Mathlib.Nat.{mul-le-mul_right}
use native.Mathlib.Omega.{arith}
use borrow.Author.Rules.{sfits_of}
use mathlib.Core.Bool.{true, false≢true}
use mathlib.Core.Path.{◌≡◌, sym, ap, ap₂, ◌∙◌}
use lib.IntN.{ℤ, pos, ◌+ℤ◌}
use lib.ListN.{length, get_or}
use mir.Facts.{to_z-of_z}
use mir.Syntax.{w64}
use mir.Val.{to_z, of_z}
use Rattle.laws.proofs.Integer.{held}
use Rattle.local_search.specs.SignSearch.{improves_c}
use Rattle.local_search.specs.Children.{change_of, flip_w, parent_choice}
use Rattle.local_search.specs.Level.{word_child, level_of}
use Rattle.local_search.proofs.ExpandLaws.{child_appended}
use Rattle.local_search.proofs.LevelLaws.{words_length, level_appended}
use Rattle.local_search.proofs.children.append_child.Goals as goal

pub returns-then-change-lt0 : goal.returns-then-change-lt0
unfolding flip_w word_child
returns-then-change-lt0 c =
    let changed : let a = c.args in to_z w64 (of_z w64 (get_or a.start.changes.now a.i (pos 0))) ≡ get_or a.start.changes.now a.i (pos 0) =
    to_z-of_z {w = w64} (sfits_of c.change-1.given) in
    let a = c.args in
    let m = length a.start.row.now in
    let change = change_of a.start.changes.now in
    let h : suc a.count ≤ suc a.i = omega arith in
    let added = to_z-of_z {w = w64} (rw (held c.args.start.objective c.struct_told-1.given.0.1, changed) (c.requires.0.safe a.i (omega arith))) ∙ ap₂ ◌+ℤ◌ (held c.args.start.objective c.struct_told-1.given.0.1) (changed) in
    let exists : improves_c change (parent_choice a.start) a.i ≡ true = rw (changed) at c.if-change-lt0.true in record {
      appended = child_appended _ _ a.count a.i a.start.changes.now (improves_c change) (parent_choice a.start)
          (word_child _ a.i a.start.row.now)
          exists
          (ap (λ (z : ℤ). word_child z a.i a.start.row.now) added)
          (ap₂ (level_of m (a.count + 1)) c.insert_objective.ensures c.insert_row.ensures
          ∙ level_appended m a.objectives.now a.signs.now (word_child _ a.i a.start.row.now) a.count (words_length a.i a.start.row.now)
          (omega arith) (omega (arith, mul-le-mul_right m h)))
          c.requires.1;
      stays_out = λ q. absurd (false≢true (sym q ∙ exists));
    }
