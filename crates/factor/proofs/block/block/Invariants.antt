-- `factor::block::block` meets its contract. The sums are the definition at e. Assumes nothing.
use mathlib.Core.Path.{◌≡◌}
use Rattle.factor.specs.Columns.{block_to}
use Rattle.factor.proofs.block.block.Given as goal

abbrev pub invariant-loop-e : goal.invariant-loop-e
invariant-loop-e g l = l.sums ≡ block_to (g.T.Term.joins l.term) (g.T.Term.leaves l.term) l.row.cols.now l.row.values.now l.factor l.rank l.offset g.row.N l.e
