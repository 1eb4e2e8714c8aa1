-- `row_gradient::two_blocks::two_blocks` meets its contract. The sums are the definition at e. Assumes nothing.
use mathlib.Core.Path.{◌≡◌}
use Rattle.row_gradient.specs.Columns.{block_to}
use Rattle.row_gradient.proofs.two_blocks.two_blocks.Given as goal

abbrev pub invariant-loop-e : goal.invariant-loop-e
invariant-loop-e g l = (l.low ≡ block_to l.row.cols.now l.row.values.now l.factor l.vertex l.rank 0 g.row.N l.e) × (l.high ≡ block_to l.row.cols.now l.row.values.now l.factor l.vertex l.rank l.second g.row.M l.e)
