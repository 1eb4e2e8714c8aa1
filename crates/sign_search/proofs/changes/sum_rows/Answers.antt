-- `sum_rows` meets its contract: the sums over the first k entries, the last row's still held.
-- Assumes nothing.
use Prim.Native.Nat.{ℕ, ◌+◌}
use native.Mathlib.Omega.{arith}
use mathlib.Core.Path.{◌≡◌, refl, sym, ◌∙◌, subst}
use lib.IntN.{pos, ◌+ℤ◌}
use lib.ListN.{length, get_or, length-set}
use lib.Seq.{drop-set-lt}
use mir.Syntax.{w64}
use mir.Val.{SFits, to_z, of_z}
use mir.Facts.{to_z-of_z}
use Rattle.tables.specs.Table.{Table, sign_at}
use Rattle.tables.specs.Flip.{flip_term}
use Rattle.laws.proofs.Integer.{held as stays}
use Rattle.tables.specs.Entries.{listed}
use Rattle.sign_search.specs.Clauses.{RowTurned, Summed}
use Rattle.sign_search.proofs.ChangeLaws as L
use Rattle.sign_search.proofs.changes.sum_rows.Goals as goal
use Rattle.sign_search.proofs.changes.sum_rows.Goals.{After-change_term-held, After-loop-k}

pub loop-k-init : goal.loop-k-init
loop-k-init c = let a = c.args in (
  L.summed_none (listed a.table) a.signs.now _ a.changes.now c.requires.1 (omega (arith, c.requires.0.in_range.rows_in 0 c.requires.2)) c.requires.3,
  refl,
)

pub turn_row-held-requires : goal.turn_row-held-requires
turn_row-held-requires c = let l = c.loop-k in
    let a = c.args in (
      L.row_room (listed a.table) a.signs.now l.k l.row (to_z w64 l.held-bits) l.changes c.requires.0 l.invariant.0,
      L.laid_fits (listed a.table) a.signs.now l.k l.row (to_z w64 l.held-bits) l.changes c.requires.0 l.invariant.0 (omega arith),
    )

-- what entry k adds to the sum of its row
module _ (c : After-change_term-held) where
  abbrev t : Table
  t = listed c.args.table

  abbrev row : ℕ
  row = get_or c.args.table.rows.now c.loop-k.k 0

  turned : Summed t c.args.signs.now c.loop-k.k row c.turn_row-held.result c.turn_row-held.new.changes
  turned =
      let l = c.loop-k in
      L.summed_turn t c.args.signs.now l.k l.row (to_z w64 l.held-bits) l.changes c.requires.0 l.invariant.0 row c.turn_row-held.result c.turn_row-held.new.changes
      (c.requires.0.in_range.rows_in l.k (omega arith))
      (subst (λ (i : ℕ). RowTurned l.row i (to_z w64 l.held-bits) c.turn_row-held.result l.changes c.turn_row-held.new.changes) c.from-i.ensures c.turn_row-held.ensures)

  added : to_z w64 (of_z w64 c.turn_row-held.result) +ℤ to_z w64 (of_z w64 c.change_term-held.result) ≡ c.turn_row-held.result +ℤ flip_term t (sign_at c.args.signs.now) row c.loop-k.k
  added = rw (stays c.turn_row-held.result c.turn_row-held.type_inv, stays c.change_term-held.result c.change_term-held.type_inv, c.change_term-held.ensures)

  fits : SFits w64 (to_z w64 (of_z w64 c.turn_row-held.result) +ℤ to_z w64 (of_z w64 c.change_term-held.result))
  fits = subst (SFits w64) (sym added) (L.more_fits t c.args.signs.now c.loop-k.k row c.turn_row-held.result c.turn_row-held.new.changes c.requires.0 turned (omega arith) refl)

pub overflow_add-held : goal.overflow_add-held
overflow_add-held c = fits (goal.at.overflow_add-held c).After-change_term-held

pub loop-k-preserved : goal.loop-k-preserved
loop-k-preserved c =
    let w = (goal.at.loop-k-preserved c).After-change_term-held in
    let l = c.loop-k in
    let a = c.args in
    let z = to_z w64 (of_z w64 (to_z w64 (of_z w64 c.turn_row-held.result) +ℤ to_z w64 (of_z w64 c.change_term-held.result))) in (
      subst (λ (i : ℕ). Summed (t w) a.signs.now (l.k + 1) i z c.turn_row-held.new.changes) (sym c.from-i.ensures)
          (L.summed_more (t w) a.signs.now l.k (row w) c.turn_row-held.result c.turn_row-held.new.changes c.requires.0 (turned w) (omega arith) refl z (to_z-of_z (fits w) ∙ added w)),
      L.turned_tail (length a.signs.now) l.row _ (to_z w64 l.held-bits) c.turn_row-held.result l.changes c.turn_row-held.new.changes l.invariant.0.row_in c.turn_row-held.ensures ∙ l.invariant.1,
    )

-- the last row's sum, which is still held
module _ (c : After-loop-k) where
  last_fits : SFits w64 (get_or c.loop-k.changes c.loop-k.row (pos 0) +ℤ to_z w64 c.loop-k.held-bits)
  last_fits = let l = c.loop-k in L.laid_fits (listed c.args.table) c.args.signs.now l.k l.row (to_z w64 l.held-bits) l.changes c.requires.0 l.invariant.0 (omega arith)

pub overflow_add-changes : goal.overflow_add-changes
overflow_add-changes c = rw (stays (get_or c.loop-k.changes c.loop-k.row (pos 0)) c.changes-2-1.given) (last_fits (goal.at.overflow_add-changes c).After-loop-k)

pub returns : goal.returns
returns c =
    let l = c.loop-k in
    let a = c.args in
    let last = stays (get_or l.changes l.row (pos 0)) c.changes-2-1.given in
    L.changes_laid (listed a.table) a.signs.now a.changes.now _
    (L.summed_all (listed a.table) a.signs.now l.k l.row (to_z w64 l.held-bits) l.changes c.requires.0 l.invariant.0 (omega arith) _
    (rw last (to_z-of_z (last_fits (goal.at.returns c).After-loop-k))))
    (simp length-set l.auto.changes) (drop-set-lt (length a.signs.now) l.changes l.row _ l.invariant.0.row_in ∙ l.invariant.1)
