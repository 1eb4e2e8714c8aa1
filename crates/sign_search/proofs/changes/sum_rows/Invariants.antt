-- `sum_rows` meets its contract: the sums over the first k entries, the last row's still held.
-- Assumes nothing.
use mathlib.Core.Path.{◌≡◌}
use lib.ListN.{length, drop}
use Rattle.tables.specs.Entries.{listed}
use Rattle.sign_search.specs.Clauses.{Summed}
use Rattle.sign_search.proofs.changes.sum_rows.Given as goal

abbrev pub invariant-loop-k : goal.invariant-loop-k
invariant-loop-k l = Summed (listed l.table) l.signs l.k l.row (l.held) l.changes
    × (drop (length l.signs) l.changes ≡ drop (length l.signs) l.initial.changes)
