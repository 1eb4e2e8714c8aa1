-- What the record call answers (01, "Job and answer records" and "Run"; 02, Note 1). Definitions only.
use Rattle.std.specs.Prelude.{ℕ, zero, suc, Bool, cond, List, [], ◌∷◌, ltb, length, Float, ℤ, ◌+ℤ◌}
use Rattle.laws.specs.Lists.{over, tabulate}
use Rattle.laws.specs.Refusal.{first, ◌if◌, any_of}
use Rattle.limits.specs.Limits.{record_workspace, least_answer}
use Rattle.tables.specs.Stored.{rows_of, cols_of, values_of}
use Rattle.reduced.specs.Submatrix.{value_in, reduced_places}
use Rattle.pinned.specs.Pinned.{free_of, free_costs, held_cost, lifted}
use Rattle.tables.specs.CostTable.{CostTable, cost_table, quadratic, linear}
use Rattle.run_sweep.specs.Work.{call_work}
use Rattle.run_contract.specs.declared.FinishResult.{FinishResult}
use Rattle.run_contract.specs.Calls as Calls
use Rattle.run_contract.specs.Calls.{Settings, finish_result, finish_choice}
use Rattle.run_contract.specs.PlainRun.{Plain, plain_open, plain_sweeps, record_of}
use Rattle.job_record.specs.Fields.{wagons, entry_count, row, column, value}
use Rattle.job_record.specs.Number.{job_number}
use Rattle.job_record.specs.Values.{job_states, job_of, job_cost, job_start_count, job_start, job_drawn, job_draw}
use Rattle.answer_record.specs.Answer.{answer_bytes, refusal_bytes}
use Rattle.answer_record.specs.declared.answer.Answer.{Answer}

-- ---- the arguments of the job's calls

-- H and c, of all wagons
unfoldable pub job_costs : List ℕ → CostTable
job_costs s =
    cost_table (wagons s) (entry_count s) (tabulate (row s) (entry_count s)) (tabulate (column s) (entry_count s)) (tabulate (value s) (entry_count s))
    (tabulate (job_cost s) (wagons s))

-- (H, c) reduced by held wagons, in lists that hold it and no more
unfoldable pub reduced_costs : CostTable → List ℕ → CostTable
reduced_costs t states =
    cost_table (length (free_of t.n states)) (length (reduced_places (quadratic t) (free_of t.n states)))
    (rows_of (reduced_places (quadratic t) (free_of t.n states))) (cols_of (reduced_places (quadratic t) (free_of t.n states)))
    (values_of (value_in (quadratic t) (free_of t.n states)) (reduced_places (quadratic t) (free_of t.n states)))
    (free_costs t.n (quadratic t) (linear t) states)

-- the table of the run: that of the free wagons; where no wagon is pinned it is H and c as the job has them (`no_pins`, proofs/Freed)
unfoldable pub run_costs : List ℕ → CostTable
run_costs s = reduced_costs (job_costs s) (job_states s)

-- the constant: what the pinned wagons cost alone, in eighths
unfoldable pub pinned_cost : List ℕ → ℤ
pinned_cost s = held_cost (job_costs s).n (quadratic (job_costs s)) (linear (job_costs s)) (job_states s)

-- of its open, over the table of the run
unfoldable pub job_settings : CostTable → List ℕ → Settings
job_settings t s =
    Calls.settings_of t (job_of s).rank (job_of s).rule (job_of s).rule_number (job_of s).most (job_of s).minimum (job_of s).objective_tolerance
    (job_of s).stationarity_tolerance (job_of s).start (tabulate (job_start s) (job_start_count s))

unfoldable pub job_draws : List ℕ → List Float
job_draws s = tabulate (job_draw s) (job_drawn s)

-- ---- the run over a table: 01's plain run (run_contract/specs/PlainRun)

-- after the job's open
unfoldable pub opened : CostTable → List ℕ → Plain
opened t s = plain_open (job_settings t s)

-- and, where its most is above 0, a sweep up to the most
unfoldable pub stopped : CostTable → List ℕ → Plain
stopped t s = cond (ltb 0 (job_of s).most) (plain_sweeps (job_of s).most (call_work t) (opened t s)) (opened t s)

-- what a finish gives then, and its choice
unfoldable pub job_result : CostTable → List ℕ → FinishResult
job_result t s = finish_result (record_of (stopped t s)) t (job_of s).width (job_of s).draw_count (job_draws s) (stopped t s).factor

unfoldable pub job_choice : CostTable → List ℕ → List ℕ
job_choice t s = finish_choice (record_of (stopped t s)) t (job_of s).width (job_of s).draw_count (job_draws s) (stopped t s).factor

-- ---- the answer

-- the fields of an answer record: n is that of all wagons; floor, rounded cost and cost include the constant
abbrev pub fields_of : ℕ → ℤ → FinishResult → Answer
fields_of n constant x =
    record {
      status = x.status;
      rank = x.rank;
      n = n;
      sweeps = x.sweeps;
      relaxed_objective = x.relaxed_objective;
      float_bound = x.float_bound;
      floor = x.floor +ℤ constant;
      rounded_cost = x.rounded_cost +ℤ constant;
      cost = x.cost +ℤ constant;
      rounds = x.rounds;
    }

-- of a job: its fields, and b, which has all wagons, the pinned ones in their stores
unfoldable pub job_fields : List ℕ → Answer
job_fields s = fields_of (job_costs s).n (pinned_cost s) (job_result (run_costs s) s)

unfoldable pub whole_choice : List ℕ → List ℕ
whole_choice s = lifted (job_costs s).n (job_states s) (job_choice (run_costs s) s)

-- the number, and the answer's bytes
pub record JobAnswer : Type 0 where
  pub number : ℕ
  pub bytes : List ℕ

-- the bytes by the number: an accepted job's answer record, or a refusal's six bytes
abbrev pub bytes_by : ℕ → List ℕ → List ℕ
bytes_by zero s = answer_bytes (job_fields s) (whole_choice s)
bytes_by (suc k) s = refusal_bytes (suc k)

-- of a job's bytes: "An accepted job's answer record holds what a finish gives after that job's open and, where its most is above 0, a sweep up
-- to the most."
unfoldable pub answer_of : List ℕ → JobAnswer
answer_of s = record { number = job_number s; bytes = bytes_by (job_number s) s }

-- ---- the call, lent a workspace of so many bytes and an answer slice

-- an answer slice of fewer than least_answer bytes is too short, and a workspace of fewer than these
abbrev pub least_workspace : ℕ
least_workspace = record_workspace

-- 31
unfoldable pub too_short : ℕ → ℕ → Bool
too_short workspace answer = any_of (ltb answer least_answer ∷ ltb workspace least_workspace ∷ [])

unfoldable pub call_number : List ℕ → ℕ → ℕ → ℕ
call_number s workspace answer = first (31 if too_short workspace answer ∷ (answer_of s).number ∷ [])

-- the answer slice at exit: with 31 as it was; else the answer over its front, and what lies behind stays
unfoldable pub answer_after : List ℕ → ℕ → List ℕ → List ℕ
answer_after s workspace answer = cond (too_short workspace (length answer)) answer (over (answer_of s).bytes answer)
