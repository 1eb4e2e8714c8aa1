-- `factor_calls::whole::whole_row` meets its contract. The sums are the definition at e, and the entries before e stand in rows up to i. Assumes nothing.
use mathlib.Core.Path.{◌≡◌}
use lib.ListN.{replicate}
use Rattle.laws.specs.Lists.{elem}
use Rattle.laws.specs.Turns.{up_to}
use Rattle.ieee.specs.Floats.{zero64}
use Rattle.tables.specs.Entries.{listed}
use Rattle.sign_table.specs.Walk.{RowAt}
use Rattle.maxcut_oracle.specs.Whole.{whole_turn}
use Rattle.factor_calls.proofs.whole.whole_row.Given as goal

abbrev pub invariant-loop-e : goal.invariant-loop-e
invariant-loop-e l = RowAt l.qv.table.count (elem l.qv.table.rows.now) l.e l.i × (l.sums ≡ up_to (whole_turn (listed l.qv.table) l.qv.rank l.qv.factor.now l.i) l.e (replicate l.qv.rank zero64))
