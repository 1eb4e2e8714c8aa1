-- `factor::rows::multiply_by` meets its contract. By what its callee ensures of each element. Assumes nothing.
use borrow.Author.Rules.{rules}
use Rattle.factor.specs.Vectors.{multiplied}
use Rattle.factor.proofs.Updates.{updated_is}
use Rattle.factor.proofs.rows.multiply_by.Goals as goal

pub returns : goal.returns
unfolding multiplied
returns c = updated_is _ _ _ (c.update.ensures.0, λ j h. let is = c.update.ensures.1 j h in search rules)
