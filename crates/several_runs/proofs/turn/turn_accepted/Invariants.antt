-- `several_runs::turn::turn_accepted` meets its contract. Assumes nothing.
use mathlib.Core.Path.{◌≡◌}
use lib.ListN.{length}
use Rattle.laws.specs.Lists.{over, fill}
use Rattle.several_runs.specs.Lent.{lent_tables}
use Rattle.several_runs.specs.Turn.{run_at, open_below, turned_at, joined}
use Rattle.several_runs.proofs.Cursors.{Cursor}
use Rattle.several_runs.proofs.turn.turn_accepted.Given as goal

abbrev pub invariant-loop-i : goal.invariant-loop-i
invariant-loop-i l = Cursor (run_at l.runs) (lent_tables l.halls l.lent) (length l.initial.factors) l.i l.at.entries l.at.costs l.at.factor × (l.before ≡ open_below (run_at l.runs) l.i)
    × (l.next ≡ fill (λ j. (turned_at l.sweeps l.run_count (run_at l.runs) (lent_tables l.halls l.lent) l.initial.factors j).run) l.i l.runs)
    × (l.factors ≡ over (joined (λ j. (turned_at l.sweeps l.run_count (run_at l.runs) (lent_tables l.halls l.lent) l.initial.factors j).factor) l.i) l.initial.factors)
