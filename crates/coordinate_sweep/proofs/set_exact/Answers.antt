-- `coordinate_sweep::set_exact` meets its contract. By what its callee ensures of each element. Assumes nothing.
use borrow.Author.Rules.{rules}
use Rattle.factor.proofs.Updates.{updated_is}
use Rattle.coordinate_sweep.specs.Sweep.{exact_row}
use Rattle.coordinate_sweep.proofs.set_exact.Goals as goal

pub returns : goal.returns
unfolding exact_row
returns c = updated_is _ _ _ (c.update_with.ensures.0, λ j h. let is = c.update_with.ensures.1 j h in search rules)
