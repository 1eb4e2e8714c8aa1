-- `several_runs::numbers::members_number` meets its contract. Assumes nothing.
use mathlib.Core.Path.{◌≡◌}
use Rattle.laws.specs.Refusal.{first_of}
use Rattle.several_runs.specs.Lent.{lent_tables}
use Rattle.several_runs.specs.Turn.{run_at, number_at}
use Rattle.several_runs.proofs.Cursors.{Cursor}
use Rattle.several_runs.proofs.numbers.members_number.Given as goal

abbrev pub invariant-loop-i : goal.invariant-loop-i
invariant-loop-i l = Cursor (run_at l.runs) (lent_tables l.halls l.lent) l.factors l.i l.at.entries l.at.costs l.at.factor
    × (first_of (number_at (run_at l.runs) (lent_tables l.halls l.lent) l.factors) l.i ≡ 0)
