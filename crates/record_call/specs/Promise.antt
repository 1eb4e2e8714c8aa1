-- What the record call promises: of every accepted job the fields of the answer's bytes as a reader of answers finds them, and with W ≥ 1 demand 3's
-- clauses for the job's H and c among the choices that keep its pins, said of what that reader finds; of any W, the float bound below every cost.
use Rattle.std.specs.Prelude.{ℕ, ◌≤◌, ◌≡◌, List, length, drop, ◌-ℤ◌}
use Rattle.tables.specs.CostTable.{quadratic, linear}
use Rattle.float_bound.specs.Below.{AtMostEighths}
use Rattle.finalize.specs.Finalize.{cost_of}
use Rattle.finalize.specs.Demand3.{Demand3}
use Rattle.pinned.specs.Pinned.{Keeps}
use Rattle.pinned_demand.specs.PinnedDemand3.{PinnedDemand3}
use Rattle.job_record.specs.Values.{pin_count, job_states, job_of}
use Rattle.answer_record.specs.Answer as Read
use Rattle.record_call.specs.Record.{job_costs, run_costs, pinned_cost, job_draws, stopped, job_fields, whole_choice, call_number, answer_after, least_workspace}

-- b, floor, rounded cost, cost and rounds of the answer, against the factor that the job's sweeps left
abbrev pub PinsPromised : List ℕ → List ℕ → Type 0
PinsPromised s answer =
    PinnedDemand3 (job_costs s).n (quadratic (job_costs s)) (linear (job_costs s)) (job_states s) (stopped (run_costs s) s).rank (stopped (run_costs s) s).factor (job_draws s) (job_of s).draw_count (job_of s).width
    (Read.choice_read answer) (Read.fields_read answer).floor (Read.fields_read answer).rounded_cost (Read.fields_read answer).cost (Read.fields_read answer).rounds

-- the same where no wagon is pinned: demand 3 as it stands, among all choices
abbrev pub Promised : List ℕ → List ℕ → Type 0
Promised s answer =
    Demand3 (job_costs s).n (quadratic (job_costs s)) (linear (job_costs s)) (stopped (job_costs s) s).rank (stopped (job_costs s) s).factor (job_draws s) (job_of s).draw_count (job_of s).width
    (Read.choice_read answer) (Read.fields_read answer).floor (Read.fields_read answer).rounded_cost (Read.fields_read answer).cost (Read.fields_read answer).rounds

-- the float bound of the answer, whatever W (02, Note 9): finite, and over whole numbers from its bits at most the cost of every choice. With pins the
-- choices are those that keep them, and it is the reduced table that says their cost, which is the full one less the constant
pub record BoundPromised (s answer : List ℕ) : Type 0 where
  pub free_choices : (b : List ℕ) → AtMostEighths (Read.fields_read answer).float_bound (cost_of (run_costs s).n (quadratic (run_costs s)) (linear (run_costs s)) b)
  pub keeping : (b : List ℕ) → Keeps (job_costs s).n (job_states s) b
      → AtMostEighths (Read.fields_read answer).float_bound (cost_of (job_costs s).n (quadratic (job_costs s)) (linear (job_costs s)) b -ℤ pinned_cost s)
  pub unpinned : pin_count s ≡ 0 → (b : List ℕ) → AtMostEighths (Read.fields_read answer).float_bound (cost_of (job_costs s).n (quadratic (job_costs s)) (linear (job_costs s)) b)

-- from the job's bytes and the lent slices to the number, and the slices at exit
pub record Answers (job workspace answer : List ℕ) (number : ℕ) (workspace' answer' : List ℕ) : Type 0 where
  pub numbered : number ≡ call_number job (length workspace) (length answer)
  pub written : answer' ≡ answer_after job (length workspace) answer
  pub refused : (number ≡ 0 → ⊥) → workspace' ≡ workspace
  -- a longer workspace keeps its tail
  pub kept : drop least_workspace workspace' ≡ drop least_workspace workspace
  -- status, rank, n, sweeps, relaxed objective, float bound, floor, rounded cost, cost and rounds, and the choice of all wagons
  pub read : number ≡ 0 → (Read.fields_read answer' ≡ job_fields job) × (Read.choice_read answer' ≡ whole_choice job)
  pub pinned : number ≡ 0 → 1 ≤ (job_of job).width → PinsPromised job answer'
  pub promised : number ≡ 0 → pin_count job ≡ 0 → 1 ≤ (job_of job).width → Promised job answer'
  pub bounded : number ≡ 0 → BoundPromised job answer'
