-- `factor::rows::subtract_scaled` meets its contract. By what its callee ensures of each element. Assumes nothing.
use borrow.Author.Rules.{rules}
use Rattle.factor.specs.Vectors.{sub_scaled}
use Rattle.factor.proofs.Updates.{updated_is}
use Rattle.factor.proofs.rows.subtract_scaled.Goals as goal

pub returns : goal.returns
unfolding sub_scaled
returns c = updated_is _ _ _ (c.update_with.ensures.0, λ j h. let is = c.update_with.ensures.1 j h in search rules)
