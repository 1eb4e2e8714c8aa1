use Rattle.pinned.proofs.Walk.{Walking}
use Rattle.tables.specs.Entries.{listed}
use Rattle.pinned.proofs.entries.free_entries.Given as goal

abbrev pub invariant-loop-l : goal.invariant-loop-l
invariant-loop-l l = Walking l.from.places.now (listed l.from.table) l.l l.at l.initial.to_rows l.initial.to_cols l.initial.to_values l.to_rows l.to_cols l.to_values
