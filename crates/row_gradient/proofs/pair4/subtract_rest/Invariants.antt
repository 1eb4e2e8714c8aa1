-- `row_gradient::pair4::subtract_rest` meets its contract. The sums are the definition at e. Assumes nothing.
use mathlib.Core.Path.{◌≡◌}
use Rattle.row_gradient.specs.Columns.{block_to}
use Rattle.row_gradient.proofs.pair4.subtract_rest.Given as goal

abbrev pub invariant-loop-e : goal.invariant-loop-e
invariant-loop-e l = l.sums ≡ block_to l.row.cols.now l.row.values.now l.factor l.vertex 4 0 4 l.e
