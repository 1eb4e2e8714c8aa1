-- `factor::columns::put_columns` meets its contract. The first j columns are written. Assumes nothing.
use mathlib.Core.Path.{◌≡◌}
use lib.ListN.{length}
use Rattle.laws.specs.Lists.{over, tabulate}
use Rattle.factor.specs.Columns.{sum_of_column}
use Rattle.factor.proofs.columns.put_columns.Given as goal

abbrev pub invariant-loop-j : goal.invariant-loop-j
invariant-loop-j g l = l.g ≡ over (tabulate (sum_of_column (g.T.Term.joins l.term) (g.T.Term.leaves l.term) l.row.cols.now l.row.values.now l.factor (length l.initial.g)) l.j) l.initial.g
