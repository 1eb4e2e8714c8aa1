-- `maxcut_oracle::objective::obj` meets its contract. The sum is the definition at e. Assumes nothing.
use Prim.Native.Nat.{◌≤◌, ◌-◌}
use mathlib.Core.Path.{◌≡◌}
use lib.ListN.{length}
use Rattle.ieee.specs.Floats.{zero64}
use Rattle.laws.specs.Turns.{up_to}
use Rattle.maxcut_oracle.specs.Objective.{obj_turn}
use Rattle.maxcut_oracle.proofs.objective.obj.Given as goal

abbrev pub invariant-loop-e : goal.invariant-loop-e
invariant-loop-e l = (l.e ≤ length l.table.rows.now) × (l.trace ≡ up_to (obj_turn l.table.rows.now l.table.cols.now l.table.values.now l.factor l.rank) l.e zero64)

abbrev pub decreases-loop-e : goal.decreases-loop-e
decreases-loop-e l = length l.table.rows.now - l.e
