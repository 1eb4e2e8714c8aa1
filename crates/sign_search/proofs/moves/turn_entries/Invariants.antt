use Rattle.tables.specs.Entries.{listed}
use Rattle.sign_search.specs.Clauses.{Turned}
use Rattle.sign_search.proofs.moves.turn_entries.Given as goal

abbrev pub invariant-loop-k : goal.invariant-loop-k
invariant-loop-k l = Turned (listed l.table) l.current l.i l.k l.initial.changes l.changes
