-- `row_gradient::pair4::gradients` meets its contract. Both rows' sums are the definition at e. Assumes nothing.
use mathlib.Core.Path.{◌≡◌}
use Rattle.row_gradient.specs.Columns.{block_to}
use Rattle.row_gradient.proofs.pair4.gradients.Given as goal

abbrev pub invariant-loop-e : goal.invariant-loop-e
invariant-loop-e l = (l.a ≡ block_to l.row.cols.now l.row.values.now l.factor l.vertex 4 0 4 l.e) × (l.b ≡ block_to l.other.cols.now l.other.values.now l.factor l.next 4 0 4 l.e)
