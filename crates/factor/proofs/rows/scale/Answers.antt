-- `factor::rows::scale` meets its contract. By what its callee ensures of each element. Assumes nothing.
use borrow.Author.Rules.{rules}
use Rattle.factor.specs.Vectors.{scaled}
use Rattle.factor.proofs.Updates.{updated_is}
use Rattle.factor.proofs.rows.scale.Goals as goal

pub returns : goal.returns
unfolding scaled
returns c = updated_is _ _ _ (c.update.ensures.0, λ j h. let is = c.update.ensures.1 j h in search rules)
