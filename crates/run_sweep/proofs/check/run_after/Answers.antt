use mathlib.Core.Path.{sym, ◌∙◌}
use Rattle.run_sweep.specs.Work.{work}
use Rattle.run_sweep.proofs.Checking.{unchecked, checked}
use Rattle.run_sweep.proofs.check.run_after.Goals as goal

pub returns-then-check_due : goal.returns-then-check_due
returns-then-check_due c = checked _ (work _ _ _ _) _ _ (sym c.check_due.ensures ∙ c.if-check_due.true) c.check-seen.ensures.objective_value.0 c.check-seen.ensures.objective_value.1 c.check-seen.ensures.objective_value.2 c.requires.sweeps_lt_most.1 c.then_some-within.ensures c.settled-done.ensures c.stop_found-found.ensures c.advanced.ensures

pub returns : goal.returns
returns c = unchecked _ (work _ _ _ _) _ _ (sym c.check_due.ensures ∙ c.if-check_due.false) c.advanced-2.ensures
