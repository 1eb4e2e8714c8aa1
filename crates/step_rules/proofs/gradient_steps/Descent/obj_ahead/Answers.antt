-- `step_rules::gradient_steps::Descent::obj_ahead` meets its contract. By what its callee ensures of each element. Assumes nothing.
use borrow.Author.Rules.{rules}
use Rattle.ieee.specs.Floats.{◌+ᶠ◌, ◌*ᶠ◌, at}
use Rattle.factor.specs.Vectors.{add_scaled}
use Rattle.factor.proofs.Updates.{updated_is}
use Rattle.step_rules.specs.Steps.{obj_ahead}
use Rattle.step_rules.proofs.gradient_steps.Descent.obj_ahead.Goals as goal

pub returns : goal.returns
unfolding obj_ahead add_scaled
returns c = rw (updated_is (λ j x. x +ᶠ c.args.alpha *ᶠ at c.args.self.g.now j) _ _ (c.obj_moved.ensures.0.0, λ j h. let is = c.obj_moved.ensures.0.1 j h in search rules)) at c.obj_moved.ensures.1
