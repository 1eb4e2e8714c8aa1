-- `prepared_table::set_diagonal` meets its contract. The diagonal is the definition at e. Assumes nothing.
use mathlib.Core.Path.{◌≡◌}
use lib.ListN.{length, replicate}
use Rattle.ieee.specs.Floats.{zero64}
use Rattle.laws.specs.Turns.{up_to}
use Rattle.tables.specs.Entries.{listed}
use Rattle.prepared_table.specs.Work.{diagonal_turn}
use Rattle.prepared_table.proofs.set_diagonal.Given as goal

abbrev pub invariant-loop-e : goal.invariant-loop-e
invariant-loop-e l = l.out ≡ up_to (diagonal_turn (listed l.table)) l.e (replicate (length l.initial.out) zero64)
