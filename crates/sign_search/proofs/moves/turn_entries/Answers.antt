use Prim.Native.Nat.{ℕ, ◌+◌, ◌^◌, ◌<◌}
use mathlib.Core.Path.{◌≡◌, sym, ap, ap₂, ◌∙◌, subst}
use native.Mathlib.Omega.{arith}
use lib.IntN.{ℤ, pos, ◌+ℤ◌, ◌*ℤ◌}
use lib.ListN.{get_or}
use mir.Syntax.{w64}
use mir.Val.{SFits, to_z, of_z}
use mir.Facts.{to_z-of_z}
use Rattle.laws.specs.Lists.{elem, elem_z}
use Rattle.laws.proofs.Integer.{held}
use Rattle.tables.specs.Table.{sign_at}
use Rattle.tables.proofs.Shares.{value_small}
use Rattle.tables.specs.Entries.{listed}
use Rattle.sign_search.specs.Clauses.{Turned, turn_weight}
use Rattle.sign_search.proofs.TurnLaws.{eight_times, turned_none, turned_more, turned_fits, turned_all, change_abs}
use lib.ListN.{set}
use Rattle.sign_search.proofs.moves.turn_entries.Goals as goal
use Rattle.sign_search.proofs.moves.turn_entries.Goals.{After-weighed}
use lib.Signed.{mag}

pub loop-k-init : goal.loop-k-init
loop-k-init c = let a = c.args in turned_none (listed a.table) a.current.now a.i a.from a.changes.now c.requires.starts

pub weighed-requires : goal.weighed-requires
weighed-requires c = let a = c.args in
    let h : c.loop-k.k < a.table.count = omega arith in
    (omega arith, rw (held (elem_z a.table.values.now c.loop-k.k) c.weighed-arg-1.given) (value_small (listed a.table) c.requires.usable.small c.loop-k.k h))

-- what entry k adds, and that it fits
module _ (c : After-weighed) where
  abbrev added : ℤ
  added = let a = c.args in let j = elem a.table.cols.now c.loop-k.k in get_or c.loop-k.changes j (pos 0) +ℤ turn_weight a.current.now a.i j *ℤ elem_z a.table.values.now c.loop-k.k

  inside : c.loop-k.k < c.args.table.count
  inside = omega arith

  row_is : elem c.args.table.rows.now c.loop-k.k ≡ c.args.i
  row_is = let l = c.loop-k in
      let p = c.requires in
      omega (arith, p.starts.ahead l.k (omega arith) inside, p.ends.behind l.k (omega arith))

  value_is : to_z w64 (of_z w64 c.weighed.result) ≡ turn_weight c.args.current.now c.args.i (elem c.args.table.cols.now c.loop-k.k) *ℤ elem_z c.args.table.values.now c.loop-k.k
  value_is =
      let a = c.args in
      let l = c.loop-k in
      held c.weighed.result c.weighed.type_inv ∙ c.weighed.ensures
      ∙ rw (held (elem_z a.table.values.now l.k) c.weighed-arg-1.given, c.sign_at.ensures, c.sign_at-in-loop-k.ensures, c.from-j.ensures)
      (eight_times (elem_z a.table.values.now l.k) (sign_at a.current.now a.i) (sign_at a.current.now (elem a.table.cols.now l.k)))

  fits : SFits w64 added
  fits =
      let a = c.args in
      let l = c.loop-k in
      let p = c.requires in
      let w = p.usable.in_range.cols_in l.k inside in
      turned_fits (listed a.table) a.current.now a.i l.k a.changes.now l.changes l.invariant row_is w inside p.usable.small
      (rw (p.changes_are.are (elem a.table.cols.now l.k) w) (change_abs a.current.now p.usable (elem a.table.cols.now l.k) w))

  -- as the code adds it
  sum_is : mag (get_or c.loop-k.changes c.from-j.result (pos 0)) < 2 ^ 63
      → to_z w64 (of_z w64 (get_or c.loop-k.changes c.from-j.result (pos 0))) +ℤ to_z w64 (of_z w64 c.weighed.result) ≡ added
  sum_is h = ap₂ ◌+ℤ◌ (held (get_or c.loop-k.changes c.from-j.result (pos 0)) h ∙ ap (λ (j : ℕ). get_or c.loop-k.changes j (pos 0)) c.from-j.ensures) value_is

pub overflow_add-changes : goal.overflow_add-changes
overflow_add-changes c = let w = (goal.at.overflow_add-changes c).After-weighed in subst (SFits w64) (sym (sum_is w c.changes-1.given)) (fits w)

pub loop-k-preserved : goal.loop-k-preserved
loop-k-preserved c =
    let a = c.args in
    let l = c.loop-k in
    let w = (goal.at.loop-k-preserved c).After-weighed in
    let t = listed a.table in
    let z = to_z w64 (of_z w64 (to_z w64 (of_z w64 (get_or l.changes c.from-j.result (pos 0))) +ℤ to_z w64 (of_z w64 c.weighed.result))) in
    let in_row = c.requires.usable.in_range.cols_in l.k (inside w) in
    subst (λ (j : ℕ). Turned t a.current.now a.i (l.k + 1) a.changes.now (set l.changes j z)) (sym c.from-j.ensures)
    (turned_more t a.current.now a.i l.k a.changes.now l.changes l.invariant (row_is w) in_row z
    (omega arith) (to_z-of_z (subst (SFits w64) (sym (sum_is w c.changes-1.given)) (fits w)) ∙ sum_is w c.changes-1.given))

pub returns : goal.returns
returns c = let a = c.args in
    let l = c.loop-k in
    turned_all (listed a.table) a.current.now a.i l.k a.to a.changes.now l.changes (omega arith) (grind (arith, c.requires.starts.inside, c.requires.ends.inside)) c.requires.ends l.invariant
