-- What the calls of a run promise (01, "Run"; the exchange of a rule 02, Note 12): the predicates that their `ensures` cite, and that the theorem on lists takes as its steps.
use Rattle.std.specs.Prelude.{ℕ, ◌+◌, ◌*◌, ◌≤◌, ◌≡◌, cond, List, eqb, Float, length, take, drop, Result, Ok, Err}
use Rattle.laws.specs.Lists.{over}
use Rattle.ieee.specs.Floats.{◌+ᶠ◌}
use Rattle.step_rules.specs.declared.StepRule.{StepRule}
use Rattle.step_rules.specs.Rule.{rule_of}
use Rattle.initialize.specs.Initialize.{start_by}
use Rattle.maxcut_oracle.specs.Table.{work_objective}
use Rattle.run_record.specs.declared.Stage.{Stage}
use Rattle.run_record.specs.declared.Stage.TheVariants.{Open, Stopped}
use Rattle.run_record.specs.declared.Run.{Run}
use Rattle.run_record.specs.declared.OpenSettings.{OpenSettings}
use Rattle.tables.specs.CostTable.{CostTable, quadratic, linear}
use Rattle.limits.specs.Limits.{search_workspace}
use Rattle.run_limits.specs.Rank.{rank_meant}
use Rattle.run_limits.specs.Start.{is_signs, draws_follow}
use Rattle.run_record.specs.Numbers.{open_number, sweep_number, FinishLengths, finish_number, exchange_number}
use Rattle.run_sweep.specs.Work.{sign_table_of, call_work}
use Rattle.run_sweep.specs.Sweep.{sweeps_up_to}
use Rattle.float_bound.specs.Below.{AtMostEighths}
use Rattle.finalize.specs.Finalize.{cost_of, diagonal_total, float_bound, floor_eighths, rounded_cost, searched_choice, searched_cost, searched_rounds, multipliers_of}
use Rattle.finalize.specs.Demand3.{Demand3}
use Rattle.run_contract.specs.declared.FinishResult.{FinishResult}

-- 01's number of an answer, 0 where the call is accepted
abbrev pub answer_number : {A : Type 0} → Result A ℕ → ℕ
answer_number (Ok value) = 0
answer_number (Err number) = number

-- ---- open

-- most sweeps 0 opens as stopped
unfoldable pub first_stage : ℕ → Stage
first_stage most = cond (eqb most 0) Stopped Open

-- the arguments of an open but the lent factor
pub record Settings : Type 0 where
  pub table : CostTable
  pub rank : ℕ
  pub rule : ℕ
  pub number : Float
  pub most : ℕ
  pub minimum : ℕ
  pub objective_tolerance : Float
  pub stationarity_tolerance : Float
  pub start : ℕ
  pub numbers : List Float

abbrev pub settings_of : CostTable → ℕ → ℕ → Float → ℕ → ℕ → Float → Float → ℕ → List Float → Settings
settings_of t rank rule number most minimum objective_tolerance stationarity_tolerance start numbers =
    record {
      table = t;
      rank = rank;
      rule = rule;
      number = number;
      most = most;
      minimum = minimum;
      objective_tolerance = objective_tolerance;
      stationarity_tolerance = stationarity_tolerance;
      start = start;
      numbers = numbers;
    }

-- the same of settings by value
abbrev pub asked_of : CostTable → OpenSettings → List Float → Settings
asked_of t asked numbers =
    settings_of t asked.rank asked.rule asked.number asked.most asked.minimum asked.objective_tolerance asked.stationarity_tolerance asked.start numbers

-- m; rank 0 as the number it means
abbrev pub open_size : Settings → ℕ
open_size o = o.table.n + 1

abbrev pub open_rank : Settings → ℕ
open_rank o = rank_meant (open_size o) o.rank

-- the start's factor, by its kind and by whether draws follow
unfoldable pub start_factor : Settings → List Float
start_factor o = start_by (is_signs o.start) (draws_follow o.most (open_rank o)) (open_rank o) (open_size o) o.numbers

-- the record of a run just opened
unfoldable pub open_run : Settings → Run
open_run o =
    record {
      size = open_size o;
      rank = open_rank o;
      rule = rule_of o.rule o.number;
      sweeps = 0;
      last_objective = work_objective (sign_table_of o.table) (open_rank o) (start_factor o);
      objective_tolerance = o.objective_tolerance;
      stationarity_tolerance = o.stationarity_tolerance;
      most = o.most;
      minimum = o.minimum;
      stage = first_stage o.most;
      status = 0;
      standing = 0;
    }

abbrev pub open_number_of : Settings → ℕ → ℕ
open_number_of o factor = open_number o.table o.rank o.rule o.number o.most o.start (length o.numbers) factor

-- from the lent factor to the answer and the factor at exit: refused by the first number that applies, with the factor as it was, or opened
pub record Opens (o : Settings) (factor : List Float) (answer : Result Run ℕ) (factor' : List Float) : Type 0 where
  pub numbered : answer_number answer ≡ open_number_of o (length factor)
  pub refused : (answer_number answer ≡ 0 → ⊥) → factor' ≡ factor
  pub accepted : answer_number answer ≡ 0 → (answer ≡ Ok (open_run o)) × (factor' ≡ over (start_factor o) factor)

-- ---- sweep

-- how many numbers a record's factor has
abbrev pub used : Run → ℕ
used run = run.size * run.rank

-- from the record and the lent factor to the number, and record and factor at exit
pub record Sweeps (run : Run) (t : CostTable) (k : ℕ) (factor : List Float) (number : ℕ) (run' : Run) (factor' : List Float) : Type 0 where
  pub numbered : number ≡ sweep_number run t (length factor)
  pub refused : (number ≡ 0 → ⊥) → (run' ≡ run) × (factor' ≡ factor)
  pub accepted : number ≡ 0
      → (run' ≡ (sweeps_up_to k (call_work t) run (take (used run) factor)).run) × (factor' ≡ over (sweeps_up_to k (call_work t) run (take (used run) factor)).factor factor)

-- ---- exchange

-- the record with another rule; "sweeps done, last objective, limits, tolerances and the count of Note 2 carry over" (02, Note 12), and so do size,
-- rank, stage and status
unfoldable pub exchanged : Run → StepRule → Run
exchanged old rule =
    record {
      size = old.size;
      rank = old.rank;
      rule = rule;
      sweeps = old.sweeps;
      last_objective = old.last_objective;
      objective_tolerance = old.objective_tolerance;
      stationarity_tolerance = old.stationarity_tolerance;
      most = old.most;
      minimum = old.minimum;
      stage = old.stage;
      status = old.status;
      standing = old.standing;
    }

-- from the record, and the rule and number that are asked for, to the call's number and the record after it
pub record Exchanges (run : Run) (rule : ℕ) (number : Float) (answer : ℕ) (run' : Run) : Type 0 where
  pub numbered : answer ≡ exchange_number run rule number
  pub refused : (answer ≡ 0 → ⊥) → run' ≡ run
  pub accepted : answer ≡ 0 → run' ≡ exchanged run (rule_of rule number)

-- ---- finish

abbrev pub finish_lengths : List Float → List Float → List ℕ → List Float → List ℕ → FinishLengths
finish_lengths draws factor b dual workspace =
    record { draws = length draws; factor = length factor; b = length b; dual = length dual; workspace = length workspace }

-- what a finish gives, from a factor of the record's size: the record's status, rank, sweeps and rows left standing, its last objective with the
-- diagonal's sum added, and the figures of rounding and search
unfoldable pub finish_result : Run → CostTable → ℕ → ℕ → List Float → List Float → FinishResult
finish_result run t width draw_count draws factor =
    record {
      status = run.status;
      rank = run.rank;
      n = t.n;
      sweeps = run.sweeps;
      relaxed_objective = run.last_objective +ᶠ diagonal_total t.n (quadratic t) (linear t);
      float_bound = float_bound t.n (quadratic t) (linear t);
      floor = floor_eighths t.n (quadratic t) (linear t);
      rounded_cost = rounded_cost t.n (quadratic t) (linear t) run.rank factor draws draw_count;
      cost = searched_cost t.n (quadratic t) (linear t) run.rank factor draws draw_count width;
      rounds = searched_rounds t.n (quadratic t) (linear t) run.rank factor draws draw_count width;
      standing = run.standing;
    }

-- the choice and the multipliers
abbrev pub finish_choice : Run → CostTable → ℕ → ℕ → List Float → List Float → List ℕ
finish_choice run t width draw_count draws factor = searched_choice t.n (quadratic t) (linear t) run.rank factor draws draw_count width

abbrev pub finish_multipliers : Run → CostTable → List Float → List Float
finish_multipliers run t factor = multipliers_of t.n (quadratic t) (linear t) run.rank factor

-- from the record and the lent slices to the answer and the slices at exit
pub record Finishes (run : Run) (t : CostTable) (width draw_count : ℕ) (draws factor : List Float) (b : List ℕ) (dual : List Float) (workspace : List ℕ)
    (answer : Result FinishResult ℕ) (b' : List ℕ) (dual' : List Float) (workspace' : List ℕ) : Type 0 where
  pub numbered : answer_number answer ≡ finish_number run t width draw_count (finish_lengths draws factor b dual workspace)
  pub refused : (answer_number answer ≡ 0 → ⊥) → (b' ≡ b) × (dual' ≡ dual) × (workspace' ≡ workspace)
  pub accepted : answer_number answer ≡ 0
      → (answer ≡ Ok (finish_result run t width draw_count draws (take (used run) factor)))
      × (b' ≡ over (finish_choice run t width draw_count draws (take (used run) factor)) b)
      × (dual' ≡ over (finish_multipliers run t (take (used run) factor)) dual)
  -- a longer workspace keeps its tail; what lies before is any after an accepted finish
  pub kept : drop search_workspace workspace' ≡ drop search_workspace workspace
  -- demand 3
  pub demand_3 : (x : FinishResult) → answer ≡ Ok x → 1 ≤ width
      → Demand3 t.n (quadratic t) (linear t) run.rank (take (used run) factor) draws draw_count width b' x.floor x.rounded_cost x.cost x.rounds
  -- the float bound, of any width: finite, and over whole numbers from its bits at most the cost of every choice (02, Note 9)
  pub bound_under : (x : FinishResult) → answer ≡ Ok x → (b'' : List ℕ) → AtMostEighths x.float_bound (cost_of t.n (quadratic t) (linear t) b'')
