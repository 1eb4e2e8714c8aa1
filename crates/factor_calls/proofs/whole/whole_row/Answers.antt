-- `factor_calls::whole::whole_row` meets its contract. The sums are the definition at e, and the entries before e stand in rows up to i. Assumes nothing.
use mathlib.Core.Path.{◌≡◌, sym, ◌∙◌}
use native.Mathlib.Omega.{arith}
use lib.ListN.{get_or}
use lib.IntN.{pos}
use Rattle.laws.proofs.Integer.{held}
use Rattle.laws.proofs.Parts.{row_within}
use Rattle.tables.specs.Entries.{listed}
use Rattle.tables.proofs.Checks.{table_accepted}
use Rattle.sign_table.proofs.Cursor.{row_start_lem, row_step}
use Rattle.factor_calls.proofs.Cursor.{row_starts, row_takes_lem, row_done}
use Rattle.factor_calls.proofs.whole.whole_row.Goals as goal

pub loop-e-init : goal.loop-e-init
loop-e-init c = let a = c.args in
    let t = listed a.qv.table in
    (row_start_lem {h = t} c.requires.0, (rw c.requires.1 at c.clear.ensures) ∙ row_starts t a.qv.rank a.qv.factor.now a.i a.from c.requires.0)

pub take_entry-requires : goal.take_entry-requires
take_entry-requires c = (rw c.from-in-loop-e.ensures (omega (arith, row_within _ _ c.args.qv.rank ((table_accepted c.args.qv.judged).in_range.cols_in c.loop-e.e c.loop-e-test.true), c.args.qv.rows_there)), omega (arith, c.requires.1))

pub loop-e-preserved : goal.loop-e-preserved
loop-e-preserved c = let a = c.args in
    let here = sym c.from.ensures ∙ c.if-from-i.false in
    let t = listed a.qv.table in
    (row_step _ _ _ _ c.loop-e.invariant.0 c.loop-e-test.true here, (rw (c.from-in-loop-e.ensures, held (get_or a.qv.table.values.now c.loop-e.e (pos 0)) c.take_entry-arg-1.given) at c.take_entry.ensures) ∙ row_takes_lem t a.qv.rank a.qv.factor.now a.i c.loop-e.e here _ c.loop-e.invariant.1)

pub returns-then-from-i : goal.returns-then-from-i
returns-then-from-i c = let a = c.args in
    let w = row_done (listed a.qv.table) a.qv.rank a.qv.factor.now a.i c.loop-e.e (table_accepted a.qv.judged).rising c.loop-e.invariant.0 (λ b r. c.if-from-i.true (c.from.ensures ∙ r)) _ c.loop-e.invariant.1 in
    record { sums_after = w.0; at = w.1 }

pub returns : goal.returns
returns c = let a = c.args in
    let end : c.loop-e.e ≡ a.qv.table.count = omega (arith, c.loop-e.invariant.0.inside, c.loop-e-test.false) in
    let w = row_done (listed a.qv.table) a.qv.rank a.qv.factor.now a.i c.loop-e.e (table_accepted a.qv.judged).rising c.loop-e.invariant.0 (λ b r. omega (arith, b, end)) _ c.loop-e.invariant.1 in
    record { sums_after = w.0; at = rw end at w.1 }
