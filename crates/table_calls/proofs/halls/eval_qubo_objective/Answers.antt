-- `table_calls::halls::eval_qubo_objective` meets its contract.
use mathlib.Core.Path.{sym, ◌∙◌}
use native.Mathlib.Omega.{arith}
use Rattle.tables.proofs.Checks.{hall_accepted}
use Rattle.table_calls.proofs.Accepting.{cost_lent, cost_numbered, choice_there}
use Rattle.table_calls.proofs.halls.eval_qubo_objective.Goals as goal

pub checked_hall-requires : goal.checked_hall-requires
checked_hall-requires c = λ e. cost_lent _ _ _ _ _ _ _ (sym c.cost_short-short.ensures ∙ e)

pub eval_qubo_objective-requires : goal.eval_qubo_objective-requires
eval_qubo_objective-requires c = let h = c.in_ok-h.h in let ok = hall_accepted h.judged in
    let numbered = cost_numbered _ _ _ _ _ _ _ c.cost_short-short.ensures c.in_ok-h.ensures.number in
    (h.costs_there, rw c.in_ok-h.ensures.judged.0 (choice_there _ _ _ _ _ _ _ (sym numbered)), ok.in_range, omega (arith, ok.magnitude))
