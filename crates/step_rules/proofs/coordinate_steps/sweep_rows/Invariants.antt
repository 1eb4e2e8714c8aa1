-- `step_rules::coordinate_steps::sweep_rows` meets its contract. The factor is the definition at i. Assumes nothing.
use mathlib.Core.Path.{◌≡◌}
use lib.ListN.{length}
use Rattle.step_rules.specs.Steps.{coord_to}
use Rattle.step_rules.proofs.coordinate_steps.sweep_rows.Given as goal

abbrev pub invariant-loop-i : goal.invariant-loop-i
invariant-loop-i l = l.factor ≡ coord_to l.table.cols.now l.table.values.now l.table.starts.now (length l.initial.g) l.alpha l.initial.factor l.i
