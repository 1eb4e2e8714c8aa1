-- `maxcut_oracle::check::add_residuals` meets its contract. The sum is the definition at j. Assumes nothing.
use mathlib.Core.Path.{◌≡◌}
use Rattle.laws.specs.Turns.{up_to}
use Rattle.maxcut_oracle.specs.Check.{residual_at}
use Rattle.maxcut_oracle.proofs.check.add_residuals.Given as goal

abbrev pub invariant-loop-j : goal.invariant-loop-j
invariant-loop-j l = l.total ≡ up_to (residual_at l.product l.factor l.multiplier) l.j l.sum
