-- `coordinate_sweep::set_momentum` meets its contract. By what its callee ensures of each element. Assumes nothing.
use borrow.Author.Rules.{rules}
use Rattle.factor.proofs.Updates.{updated_is}
use Rattle.coordinate_sweep.specs.Sweep.{momentum_row}
use Rattle.coordinate_sweep.proofs.set_momentum.Goals as goal

pub returns : goal.returns
unfolding momentum_row
returns c = updated_is _ _ _ (c.update_with.ensures.0, λ j h. let is = c.update_with.ensures.1 j h in search rules)
