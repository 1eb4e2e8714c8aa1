-- `sign_table::absorb::row_sum` meets its contract.
use Rattle.sign_table.proofs.Bounds.{row_held, summed_fits, summed_is}
use Rattle.sign_table.proofs.Cursor.{in_row_false, row_step}
use Rattle.laws.proofs.Sums.{only_yes, turn_fits, turn_is}
use Rattle.laws.specs.Lists.{elem, elem_z}
use native.Mathlib.Omega.{arith}
use mathlib.Core.Path.{◌≡◌, sym, ◌∙◌}
use Prim.Native.Nat.{◌<◌}
use Rattle.sign_table.proofs.absorb.row_sum.Goals.{else-loop-k-test, then-loop-k-test+then-from-i}
use Rattle.sign_table.proofs.absorb.row_sum.Goals as goal

pub overflow_add-sum : goal.overflow_add-sum
overflow_add-sum c =
    turn_fits (row_held _ _ _ c.args.i c.requires.1) _ _ _ c.loop-k-test.true c.loop-k.invariant.1 c.sum-1.given (sym (only_yes _ c.args.i _ (sym c.from.ensures ∙ c.if-from-i.false)))

pub loop-k-preserved : goal.loop-k-preserved
loop-k-preserved c =
    let here = sym c.from.ensures ∙ c.if-from-i.false in (row_step _ _ _ _ c.loop-k.invariant.0 c.loop-k-test.true here, turn_is (row_held _ _ _ c.args.i c.requires.1) _ _ _ c.loop-k-test.true c.loop-k.invariant.1 c.sum-1.given (sym (only_yes _ c.args.i _ here)), c.loop-k.invariant.2)

pub overflow_add-result : goal.overflow_add-result
overflow_add-result c = let a = c.args in
    let p = c.requires in
    summed_fits _ _ _ (elem_z a.c.now a.i) _ _ c.loop-k.invariant.1 c.linear_value.type_inv c.linear_value.ensures c.loop-k.invariant.0.inside p.1 p.2

pub returns : goal.returns
returns c = let a = c.args in
    let p = c.requires in
    let e : c.loop-k-test.next ≡ c.loop-k.k = elim c.loop-k-test.branch [ else-loop-k-test w ↦ omega (arith, w.next-is, w.loop-k-test.false) | then-loop-k-test+then-from-i w ↦ w.next-is ] in
    let none : c.loop-k.k < a.table.count → elem a.table.rows.now c.loop-k.k ≡ a.i → ⊥ = elim c.loop-k-test.branch [ else-loop-k-test w ↦ λ b r. omega (arith, b, w.loop-k-test.false) | then-loop-k-test+then-from-i w ↦ λ b r. w.if-from-i.true (w.from.ensures ∙ r) ] in
    rw e (record { is = summed_is _ _ _ (elem_z a.c.now a.i) _ _ c.loop-k.invariant.1 c.linear_value.type_inv c.linear_value.ensures c.loop-k.invariant.0.inside p.1 p.2; at = c.loop-k.invariant.0; past = in_row_false _ (elem a.table.rows.now) _ _ none })
