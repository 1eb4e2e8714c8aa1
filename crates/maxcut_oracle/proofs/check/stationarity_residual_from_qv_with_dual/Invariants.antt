-- `maxcut_oracle::check::stationarity_residual_from_qv_with_dual` meets its contract. The sum is the definition at i. Assumes nothing.
use mathlib.Core.Path.{◌≡◌}
use Rattle.ieee.specs.Floats.{zero64}
use Rattle.laws.specs.Turns.{up_to}
use Rattle.maxcut_oracle.specs.Check.{residual_turn}
use Rattle.maxcut_oracle.proofs.check.stationarity_residual_from_qv_with_dual.Given as goal

abbrev pub invariant-loop-i : goal.invariant-loop-i
invariant-loop-i l = l.residual_sq ≡ up_to (residual_turn l.product l.factor l.dual l.rank) l.i zero64
