use Rattle.laws.proofs.Integer.{held}
use native.Mathlib.Omega.{arith}
use mathlib.Core.Path.{◌∙◌}
use Rattle.pinned.proofs.Steps.{cost_next}
use Rattle.pinned.proofs.reduce.put_costs.Goals as goal

pub loop-k-preserved : goal.loop-k-preserved
loop-k-preserved c = rw (held _ c.beside_held.type_inv) (cost_next _ _ _ _ (omega (arith, c.requires.1, c.loop-k-test.true)) c.loop-k.invariant (c.beside_held.ensures ∙ rw c.from-i.ensures))
