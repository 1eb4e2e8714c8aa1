-- `factor::blocks::put_blocks` meets its contract. The columns before block b are written. Assumes nothing.
use mathlib.Core.Path.{◌≡◌}
use Prim.Native.Nat.{◌+◌, ◌*◌}
use lib.ListN.{length}
use Rattle.laws.specs.Lists.{over, tabulate}
use Rattle.factor.specs.Columns.{sum_of_column}
use Rattle.factor.proofs.blocks.put_blocks.Given as goal

abbrev pub invariant-loop-b : goal.invariant-loop-b
invariant-loop-b g l = l.g ≡ over (tabulate (sum_of_column (g.T.Term.joins l.term) (g.T.Term.leaves l.term) l.row.cols.now l.row.values.now l.factor (length l.initial.g)) (l.first + l.b * g.row.N)) l.initial.g
