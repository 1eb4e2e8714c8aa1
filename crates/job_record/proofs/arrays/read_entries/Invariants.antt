use mathlib.Core.Path.{◌≡◌}
use Rattle.laws.specs.Lists.{fill}
use Rattle.job_record.specs.Fields.{row, column, value}
use Rattle.job_record.proofs.arrays.read_entries.Given as goal

abbrev pub invariant-loop-i : goal.invariant-loop-i
invariant-loop-i l = (l.rows ≡ fill (row l.job) l.i l.initial.rows) × (l.cols ≡ fill (column l.job) l.i l.initial.cols) × (l.values ≡ fill (value l.job) l.i l.initial.values)
