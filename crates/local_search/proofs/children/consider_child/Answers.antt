use borrow.Author.Rules.{sfits_of}
use native.Mathlib.Omega.{arith}
use mathlib.Core.Bool.{true}
use mathlib.Core.Path.{◌≡◌, refl, ap₂, ◌∙◌}
use lib.IntN.{pos, ◌+ℤ◌}
use lib.ListN.{take, get_or}
use mir.Facts.{to_z-of_z}
use mir.Syntax.{w64}
use Rattle.laws.proofs.Integer.{held}
use Rattle.local_search.specs.SignSearch.{improves_c}
use Rattle.local_search.specs.Children.{change_of, parent_choice}
use Rattle.local_search.proofs.ExpandLaws.{child_kept, no_child}
use Rattle.local_search.proofs.EntersMeans.{room_missed}
use Rattle.local_search.proofs.children.consider_child.Goals as goal

pub returns-then-d-lt0 : goal.returns-then-d-lt0
returns-then-d-lt0 c =
    let changed = to_z-of_z {w = w64} (sfits_of c.d-1.given) in
    let a = c.args in
    let change = change_of a.parent.changes.now in
    let parent = parent_choice a.parent in
    let exists : improves_c change parent a.i ≡ true = rw changed at c.if-d-lt0.true in
    let added = to_z-of_z {w = w64} (rw (held c.args.parent.objective c.struct_told-1.given.0.1, changed) (c.requires.0.safe a.i (omega arith))) ∙ ap₂ ◌+ℤ◌ (held c.args.parent.objective c.struct_told-1.given.0.1) changed in record { kept = child_kept a.width _ _ c.insert_child.result a.i a.parent.changes.now (improves_c change) parent _ exists added c.insert_child.ensures.inserted; stays_out = λ q. c.insert_child.ensures.stays_out (room_missed a.width (take a.count a.objectives.now) a.parent.changes.now parent a.i _ exists added q) }

pub returns-clause-kept : goal.returns-clause-kept
returns-clause-kept c =
    let changed = to_z-of_z {w = w64} {z = get_or c.args.parent.changes.now c.args.i (pos 0)} (sfits_of c.d-1.given) in
    no_child c.args.width _ _ c.args.count c.args.i c.args.parent.changes.now (improves_c (change_of c.args.parent.changes.now)) (parent_choice c.args.parent)
    (rw changed at c.if-d-lt0.false) refl c.requires.0.used
