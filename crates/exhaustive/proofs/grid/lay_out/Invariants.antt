-- `exhaustive::grid::lay_out` meets its contract. Assumes nothing.
use Rattle.exhaustive.proofs.Placing.{Laid}
use Rattle.exhaustive.proofs.grid.lay_out.Given as goal

abbrev pub invariant-loop-k : goal.invariant-loop-k
invariant-loop-k l = Laid l.table.rows.now l.table.cols.now l.table.values.now l.k l.grid
