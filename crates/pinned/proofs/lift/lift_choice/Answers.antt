use borrow.Author.Rules.{rules}
use Rattle.pinned.proofs.Lifting.{free_in_lem, lift_made}
use native.Mathlib.Omega.{arith}
use Rattle.pinned.proofs.lift.lift_choice.Goals as goal

pub put_each-requires : goal.put_each-requires
put_each-requires c = (free_in_lem _ _ _ c.requires.1 (omega (arith, c.requires.3, c.copy_states.auto)), search rules)

pub returns : goal.returns
returns c = lift_made _ _ _ _ c.requires.0 c.requires.1 c.copy_states.ensures (c.put_each.ensures 0)
