-- `factor::columns::column` meets its contract. The sum is the definition at e. Assumes nothing.
use mathlib.Core.Path.{◌≡◌}
use Rattle.factor.specs.Columns.{sum_to_column}
use Rattle.factor.proofs.columns.column.Given as goal

abbrev pub invariant-loop-e : goal.invariant-loop-e
invariant-loop-e g l = l.sum ≡ sum_to_column (g.T.Term.joins l.term) (g.T.Term.leaves l.term) l.row.cols.now l.row.values.now l.factor l.rank l.j l.e
