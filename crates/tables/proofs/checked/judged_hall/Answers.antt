-- `tables::checked::judged_hall` meets its contract: what it asks are the facts of what it hands over.
use Rattle.tables.proofs.checked.judged_hall.Goals as goal

pub invariant_of-result : goal.invariant_of-result
invariant_of-result c = record { costs_there = c.requires.costs_there; judged = rw c.entries.ensures c.requires.judged }
