-- The float bound of an accepted job's answer, as a reader of answers finds it: `bound_promise`. Assumes nothing.
use Prim.Native.Nat.{ℕ, ◌<◌}
use native.Mathlib.Omega.{arith}
use mathlib.Core.Path.{◌≡◌, sym, ap, ◌∙◌, subst}
use mathlib.Core.List.{List}
use lib.ListN.{get_or}
use lib.IntN.{ℤ, ◌-ℤ◌, +ℤ-neg_ℤ_cancel}
use lib.Ieee.{Float}
use Rattle.laws.specs.Lists.{over}
use Rattle.float_bound.specs.Below.{AtMostEighths}
use Rattle.finalize.specs.Finalize.{cost_of}
use Rattle.pinned.specs.Pinned.{free_table, free_part, Keeps}
use Rattle.pinned_demand.proofs.Pinned.{part_cost}
use Rattle.tables.specs.CostTable.{CostTable, quadratic, linear}
use Rattle.run_contract.specs.Calls.{finish_result}
use Rattle.run_contract.proofs.Bounded.{bounded}
use Rattle.job_record.specs.Number.{job_number}
use Rattle.job_record.specs.Values.{pin_count, job_states}
use Rattle.answer_record.specs.Answer.{answer_bytes}
use Rattle.answer_record.specs.declared.answer.Answer.{Answer}
use Rattle.record_call.specs.Record.{job_costs, reduced_costs, run_costs, pinned_cost, job_result, job_fields, whole_choice}
use Rattle.record_call.specs.Promise.{BoundPromised}
use Rattle.record_call.proofs.Freed.{job_hall, run_hall, states_whole, no_pins}
use Rattle.record_call.proofs.Promise.{fields_read_lem}

abbrev of_table : CostTable → List ℕ → ℤ
of_table t b = cost_of t.n (quadratic t) (linear t) b

module _ (s : List ℕ) (e : job_number s ≡ 0) where
  -- what a choice that keeps the pins costs by it
  part : (b : List ℕ) → Keeps (job_costs s).n (job_states s) b → of_table (run_costs s) (free_part (job_costs s).n (job_states s) b) ≡ of_table (job_costs s) b -ℤ pinned_cost s
  unfolding run_costs reduced_costs free_table pinned_cost
  part b keeps = sym (+ℤ-neg_ℤ_cancel _ _) ∙ ap (λ (z : ℤ). z -ℤ pinned_cost s) (part_cost (job_hall s e) (job_states s) (omega (arith, states_whole s)) b keeps)

  -- by the bound that is read of the answer: the run's table, a choice that keeps the pins, and any choice where there are none
  module _ {x : Float} (is : x ≡ (job_fields s).float_bound) where
    of_run : (b : List ℕ) → AtMostEighths x (of_table (run_costs s) b)
    unfolding job_fields job_result finish_result
    of_run b = subst (λ (y : Float). AtMostEighths y (of_table (run_costs s) b)) (sym is) (bounded (run_hall s e) b)

    of_keeping : (b : List ℕ) → Keeps (job_costs s).n (job_states s) b → AtMostEighths x (of_table (job_costs s) b -ℤ pinned_cost s)
    of_keeping b keeps = subst (AtMostEighths x) (part b keeps) (of_run (free_part (job_costs s).n (job_states s) b))

    of_all : pin_count s ≡ 0 → (b : List ℕ) → AtMostEighths x (of_table (job_costs s) b)
    of_all none b = subst (λ (t : CostTable). AtMostEighths x (of_table t b)) (no_pins s e none) (of_run b)

  pub bound_promise : ((i : ℕ) → get_or s i 0 < 256) → (out : List ℕ) → BoundPromised s (over (answer_bytes (job_fields s) (whole_choice s)) out)
  bound_promise bytes out =
      let is = ap (λ (a : Answer). a.float_bound) (fields_read_lem s e bytes out) in
      record { free_choices = of_run is; keeping = of_keeping is; unpinned = of_all is }
