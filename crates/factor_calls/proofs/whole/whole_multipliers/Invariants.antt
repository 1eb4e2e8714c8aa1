-- `factor_calls::whole::whole_multipliers` meets its contract. The first i elements are written, and `from` is where row i starts. Assumes nothing.
use mathlib.Core.Path.{◌≡◌}
use Rattle.tables.specs.Entries.{listed}
use Rattle.laws.specs.Lists.{over, tabulate}
use Rattle.sign_table.specs.Walk.{At}
use Rattle.laws.specs.Rows.{row_of}
use Rattle.maxcut_oracle.specs.Whole.{whole_row}
use Rattle.factor_calls.specs.Equation8.{value_of}
use Rattle.factor_calls.proofs.whole.whole_multipliers.Given as goal

abbrev pub invariant-loop-i : goal.invariant-loop-i
invariant-loop-i l = (l.dual ≡ over (tabulate (λ j. value_of l.divided (whole_row (listed l.qv.table) l.qv.rank l.qv.factor.now j) (row_of l.qv.rank l.qv.factor.now j)) l.i) l.initial.dual) × At (listed l.qv.table) l.from l.i 0
