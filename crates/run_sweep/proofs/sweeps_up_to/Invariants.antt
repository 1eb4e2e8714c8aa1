use Prim.Native.Nat.{◌-◌}
use mathlib.Core.Path.{◌≡◌}
use lib.ListN.{length}
use Rattle.run_sweep.specs.Work.{work_in}
use Rattle.run_sweep.specs.Sweep.{sweeps_up_to}
use Rattle.run_sweep.specs.Running.{Running, Sweepable}
use Rattle.run_sweep.proofs.sweeps_up_to.Given as goal

abbrev pub invariant-loop : goal.invariant-loop
invariant-loop l = Running l.at × Sweepable (work_in l.table) l.at.size l.at.rank l.factor (length l.product) (length l.moved) (length l.dual)
    × (sweeps_up_to (l.k - l.counter) (work_in l.table) l.at l.factor ≡ sweeps_up_to l.k (work_in l.table) l.initial.at l.initial.factor)
