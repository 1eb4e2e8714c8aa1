-- `coordinate_sweep::coordinate_sweep` meets its contract. Factor and count are the definitions at i. Assumes nothing.
use mathlib.Core.Path.{◌≡◌}
use Prim.Native.Nat.{◌≤◌, ◌-◌}
use lib.ListN.{length}
use Rattle.coordinate_sweep.specs.Sweep.{sweep_to, standing_to}
use Rattle.coordinate_sweep.proofs.coordinate_sweep.Given as goal

abbrev pub invariant-loop-i : goal.invariant-loop-i
invariant-loop-i l = (l.i ≤ l.m) × (l.factor ≡ sweep_to l.table.cols.now l.table.values.now l.table.starts.now (length l.initial.g) l.beta l.initial.factor l.i) × (l.left ≡ standing_to l.table.cols.now l.table.values.now l.table.starts.now (length l.initial.g) l.beta l.initial.factor l.i)

abbrev pub decreases-loop-i : goal.decreases-loop-i
decreases-loop-i l = l.m - l.i
