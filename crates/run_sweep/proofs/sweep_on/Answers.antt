use mathlib.Core.Path.{◌∙◌}
use Rattle.step_rules.proofs.Standing.{standing_in_few}
use Rattle.factor.proofs.Shaping.{reshaped}
use Rattle.run_sweep.proofs.sweep_on.Goals as goal

pub run_after-requires : goal.run_after-requires
run_after-requires c = record {
  countable = record {
    standing_before = c.requires.sweeps_lt_most.1;
    left_few = rw c.step-answer.ensures.standing_value (standing_in_few _ _ _ _ _ _ _);
    signs_few = c.requires.sweepable.few;
  };
  sweeps_lt_most = (c.requires.sweeps_lt_most.0, c.step-answer.ensures.tests_value, reshaped c.requires.sweepable.shaped c.step-answer.auto.factor, c.step-answer.auto.scratch ∙ c.requires.sweepable.product_is, c.requires.sweepable.dual_is);
}
