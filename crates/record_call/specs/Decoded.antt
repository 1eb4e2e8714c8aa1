-- An accepted job, decoded into lists that hold its parts and no more: the settings, the H and c of its run, the start's numbers.
use Rattle.std.specs.Prelude.{ℕ, ◌≡◌, ◌*◌, ◌≤◌, List, ℤ, ◌+ℤ◌, length, take, Float}
use Rattle.std.specs.Int.{w64}
use Rattle.std.proofs.Common.{SFits}
use Rattle.laws.specs.Lists.{tabulate, over}
use Rattle.limits.specs.Limits.{most_wagons, search_workspace}
use Rattle.pinned.specs.Pinned.{free_of}
use Rattle.tables.specs.CostTable.{CostTable, cost_table}
use Rattle.run_contract.specs.declared.FinishResult.{FinishResult}
use Rattle.run_contract.specs.Calls.{open_size, open_rank}
use Rattle.job_record.specs.Fields.{wagons, entry_count}
use Rattle.job_record.specs.Number.{job_number}
use Rattle.job_record.specs.Values.{job_states, values_in, job_of, job_start_count, job_start, TableRoom}
use Rattle.job_record.specs.declared.job.Job.{Job}
use Rattle.answer_record.specs.declared.answer.Answer.{Answer}
use Rattle.record_call.specs.Record.{job_costs, run_costs, job_settings, job_result, job_choice, job_fields, whole_choice}

pub record Decoded (s : List ℕ) (j : Job) (t : CostTable) (start : List Float) : Type 0 where
  pub accepted : job_number s ≡ 0
  pub job_is : values_in j ≡ job_of s
  pub costs_are : t ≡ run_costs s
  pub start_is : start ≡ tabulate (job_start s) (job_start_count s)

-- slices whose fronts hold an accepted job's H and c
pub record AtFronts (s rows cols : List ℕ) (values c : List ℤ) : Type 0 where
  pub accepted : job_number s ≡ 0
  pub room : TableRoom rows cols values c
  pub costs_are : cost_table (wagons s) (entry_count s) (take (entry_count s) rows) (take (entry_count s) cols) (take (entry_count s) values) (take (wagons s) c) ≡ job_costs s

-- and the H and c alone, cut from there
pub record OwnCosts (s : List ℕ) (j : Job) (t : CostTable) : Type 0 where
  pub accepted : job_number s ≡ 0
  pub job_is : values_in j ≡ job_of s
  pub costs_are : t ≡ job_costs s

-- room for a choice of all wagons, and for the words of a search
pub record RoomFor (b workspace : List ℕ) : Type 0 where
  pub choice_room : most_wagons ≤ length b
  pub search_room : search_workspace ≤ length workspace

-- how many numbers the factor of the job's run has
abbrev pub factor_size : List ℕ → ℕ
factor_size s = open_size (job_settings (run_costs s) s) * open_rank (job_settings (run_costs s) s)

-- the run's finish: its result, and its choice over the front of the slice
pub record RunFinished (s b : List ℕ) (x : FinishResult) (b' : List ℕ) : Type 0 where
  pub result_is : x ≡ job_result (run_costs s) s
  pub choice_is : b' ≡ over (job_choice (run_costs s) s) b

-- the answer: its fields, and the choice of all wagons over the front of the slice
pub record JobAnswered (s b : List ℕ) (r : Answer) (b' : List ℕ) : Type 0 where
  pub fields_are : r ≡ job_fields s
  pub choice_is : b' ≡ over (whole_choice s) b

-- the run on the free wagons: the answer's fields, these wagons over the front of the one slice and their choice over that of the other
pub record FreeRun (s free chosen : List ℕ) (r : Answer) (free' chosen' : List ℕ) : Type 0 where
  pub fields_are : r ≡ job_fields s
  pub wagons_are : free' ≡ over (free_of (job_costs s).n (job_states s)) free
  pub choice_is : chosen' ≡ over (job_choice (run_costs s) s) chosen

-- an i64 holds each figure with the constant
pub record FiguresFit (constant : ℤ) (x : FinishResult) : Type 0 where
  pub floor : SFits w64 (x.floor +ℤ constant)
  pub rounded : SFits w64 (x.rounded_cost +ℤ constant)
  pub cost : SFits w64 (x.cost +ℤ constant)
