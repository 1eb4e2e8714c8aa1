use native.Mathlib.Omega.{arith}
use borrow.Author.Rules.{sfits_of}
use mathlib.Core.Path.{◌≡◌, sym, ap, ◌∙◌}
use lib.IntN.{ℤ, ◌+ℤ◌}
use lib.Signed.{lt_z}
use mir.Facts.{to_z-of_z}
use Rattle.std.proofs.Common.{SFits}
use mir.Syntax.{w64}
use mir.Val.{to_z, of_z}
use Rattle.laws.proofs.Integer.{held}
use Rattle.local_search.specs.Enters.{none, first}
use Rattle.local_search.proofs.LimitLaws.{same_first}
use Rattle.local_search.proofs.children.next_child.Goals as goal

-- the sum that is tested
sum_is : {o d : ℤ} → to_z w64 (of_z w64 o) ≡ o → to_z w64 (of_z w64 d) ≡ d → SFits w64 (o +ℤ d) → to_z w64 (of_z w64 (to_z w64 (of_z w64 o) +ℤ to_z w64 (of_z w64 d))) ≡ o +ℤ d
sum_is p q h = rw (p, q) (to_z-of_z h)

pub returns-then-parent-i : goal.returns-then-parent-i
returns-then-parent-i c =
    let p = c.args.parent in
    let l = c.loop-i in
    let limit = c.entry_limit-limit in
    let summed = sum_is (held p.objective c.struct_told-1.given.0.1) (to_z-of_z {w = w64} (sfits_of c.t14-1.given)) (c.requires.2 l.i (omega arith)) in
    same_first p.changes.now p.objective (held limit.result limit.type_inv ∙ rw (held p.objective c.struct_told-1.given.0.1) at limit.ensures)
    (first l.i l.auto.i (omega arith) l.invariant (sym (ap (λ (z : ℤ). lt_z z (to_z w64 (of_z w64 limit.result))) summed) ∙ c.if-parent-i.true))

pub returns : goal.returns
returns c =
    let p = c.args.parent in
    let limit = c.entry_limit-limit in
    same_first p.changes.now p.objective (held limit.result limit.type_inv ∙ rw (held p.objective c.struct_told-1.given.0.1) at limit.ensures)
    (none (λ j a b. c.loop-i.invariant j a (omega arith)))
