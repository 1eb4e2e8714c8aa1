-- `maxcut_oracle::objective::obj_from_qv` meets its contract. The trace is the definition at i. Assumes nothing.
use mathlib.Core.Path.{◌≡◌}
use Rattle.ieee.specs.Floats.{zero64}
use Rattle.laws.specs.Turns.{up_to}
use Rattle.maxcut_oracle.specs.Objective.{product_turn}
use Rattle.maxcut_oracle.proofs.objective.obj_from_qv.Given as goal

abbrev pub invariant-loop-i : goal.invariant-loop-i
invariant-loop-i l = l.trace ≡ up_to (product_turn l.product l.factor l.rank) l.i zero64
