-- What the record call answered before there were pins (01 alone), kept to say what a job of version 1 is still answered: the text of Record as it
-- was, with the places of the settings and of the draws behind c; and what it answered before there were larger houses.
use Rattle.std.specs.Prelude.{ℕ, zero, suc, ◌+◌, ◌*◌, cond, List, ltb, Float}
use Rattle.laws.specs.Lists.{tabulate}
use Rattle.tables.specs.CostTable.{CostTable, quadratic, linear}
use Rattle.run_sweep.specs.Work.{call_work}
use Rattle.run_contract.specs.declared.FinishResult.{FinishResult}
use Rattle.run_contract.specs.Calls as Calls
use Rattle.run_contract.specs.Calls.{Settings, finish_result, finish_choice}
use Rattle.run_contract.specs.PlainRun.{Plain, plain_open, plain_sweeps, record_of}
use Rattle.job_reader.specs.Bytes.{big_endian}
use Rattle.job_record.specs.Fields.{wagons, pins_place, pin_count_by, free_by, settings_by, double_from, rank_at, rule_at, rule_number_at, most_at, minimum_at, objective_tolerance_at, stationarity_tolerance_at, width_at, start_at, rank_of, start_count_of}
use Rattle.job_record.specs.Versions.{two_versions}
use Rattle.job_record.specs.Number.{number_by}
use Rattle.job_record.specs.Base.{base_number, base_settings, base_draws}
use Rattle.answer_record.specs.Answer.{answer_bytes, refusal_bytes}
use Rattle.answer_record.specs.declared.answer.Answer.{Answer}
use Rattle.job_record.specs.Values.{JobValues, draws_by, states_of, job_by}
use Rattle.pinned.specs.Pinned.{held_cost, lifted}
use Rattle.record_call.specs.Record.{job_costs, reduced_costs, fields_of, JobAnswer}

-- the arguments of its open, and its draws
unfoldable pub base_open : List ℕ → Settings
base_open s =
    Calls.settings_of (job_costs s) (rank_at s (base_settings s)) (rule_at s (base_settings s)) (rule_number_at s (base_settings s)) (most_at s (base_settings s)) (minimum_at s (base_settings s))
    (objective_tolerance_at s (base_settings s)) (stationarity_tolerance_at s (base_settings s)) (start_at s (base_settings s))
    (tabulate (double_from s (base_settings s + 36)) (start_count_of s (wagons s) (base_settings s)))

unfoldable pub base_drawn : List ℕ → List Float
base_drawn s = tabulate (double_from s (base_draws s + 2)) (big_endian s (base_draws s) 2 * rank_of s (wagons s) (base_settings s))

-- the run, what a finish gives then, and its choice
unfoldable pub base_stopped : List ℕ → Plain
base_stopped s = cond (ltb 0 (most_at s (base_settings s))) (plain_sweeps (most_at s (base_settings s)) (call_work (job_costs s)) (plain_open (base_open s))) (plain_open (base_open s))

unfoldable pub base_result : List ℕ → FinishResult
base_result s = finish_result (record_of (base_stopped s)) (job_costs s) (width_at s (base_settings s)) (big_endian s (base_draws s) 2) (base_drawn s) (base_stopped s).factor

unfoldable pub base_choice : List ℕ → List ℕ
base_choice s = finish_choice (record_of (base_stopped s)) (job_costs s) (width_at s (base_settings s)) (big_endian s (base_draws s) 2) (base_drawn s) (base_stopped s).factor

-- the fields of an answer record, which are the result's
abbrev pub base_fields : FinishResult → Answer
base_fields x =
    record {
      status = x.status;
      rank = x.rank;
      n = x.n;
      sweeps = x.sweeps;
      relaxed_objective = x.relaxed_objective;
      float_bound = x.float_bound;
      floor = x.floor;
      rounded_cost = x.rounded_cost;
      cost = x.cost;
      rounds = x.rounds;
    }

-- the bytes by the number, and the answer
abbrev pub base_bytes : ℕ → List ℕ → List ℕ
base_bytes zero s = answer_bytes (base_fields (base_result s)) (base_choice s)
base_bytes (suc k) s = refusal_bytes (suc k)

unfoldable pub base_answer : List ℕ → JobAnswer
base_answer s = record { number = base_number s; bytes = base_bytes (base_number s) s }

-- ---- before there were larger houses: the text of Record, all that it reads of a job by the table with versions 1 and 2

abbrev pub two_job : List ℕ → JobValues
two_job s = job_by two_versions s

unfoldable pub two_states : List ℕ → List ℕ
two_states s = states_of s (wagons s) (pins_place s + 1) (pin_count_by two_versions s)

unfoldable pub two_costs : List ℕ → CostTable
two_costs s = reduced_costs (job_costs s) (two_states s)

unfoldable pub two_open : List ℕ → Settings
two_open s =
    Calls.settings_of (two_costs s) (two_job s).rank (two_job s).rule (two_job s).rule_number (two_job s).most (two_job s).minimum (two_job s).objective_tolerance
    (two_job s).stationarity_tolerance (two_job s).start
    (tabulate (double_from s (settings_by two_versions s + 36)) (start_count_of s (free_by two_versions s) (settings_by two_versions s)))

unfoldable pub two_drawn : List ℕ → List Float
two_drawn s = tabulate (double_from s (draws_by two_versions s + 2)) (big_endian s (draws_by two_versions s) 2 * rank_of s (free_by two_versions s) (settings_by two_versions s))

unfoldable pub two_stopped : List ℕ → Plain
two_stopped s = cond (ltb 0 (two_job s).most) (plain_sweeps (two_job s).most (call_work (two_costs s)) (plain_open (two_open s))) (plain_open (two_open s))

unfoldable pub two_result : List ℕ → FinishResult
two_result s = finish_result (record_of (two_stopped s)) (two_costs s) (two_job s).width (two_job s).draw_count (two_drawn s) (two_stopped s).factor

unfoldable pub two_choice : List ℕ → List ℕ
two_choice s = finish_choice (record_of (two_stopped s)) (two_costs s) (two_job s).width (two_job s).draw_count (two_drawn s) (two_stopped s).factor

-- n and b of all wagons, the constant in the figures
unfoldable pub two_fields : List ℕ → Answer
two_fields s = fields_of (job_costs s).n (held_cost (job_costs s).n (quadratic (job_costs s)) (linear (job_costs s)) (two_states s)) (two_result s)

unfoldable pub two_whole : List ℕ → List ℕ
two_whole s = lifted (job_costs s).n (two_states s) (two_choice s)

abbrev pub two_bytes : ℕ → List ℕ → List ℕ
two_bytes zero s = answer_bytes (two_fields s) (two_whole s)
two_bytes (suc k) s = refusal_bytes (suc k)

unfoldable pub two_answer : List ℕ → JobAnswer
two_answer s = record { number = number_by two_versions s; bytes = two_bytes (number_by two_versions s) s }
