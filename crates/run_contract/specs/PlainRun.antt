-- 01's plain run ("Run", second paragraph): sweep by sweep, on a state of its own. Definitions only.
--
-- What it shares with the contracts of open, sweep and finish: the table as a sweep takes it (`call_work`, and `sign_table_of` for the last objective at
-- the open), one sweep of a rule and the rows that it leaves as they were (`stepped`, `standing_in`), a check's objective, residual and threshold
-- (`check_objective`, `check_residual`, `check_threshold`), 000's objective of a start (`work_objective`), the start's factor with the size and rank meant
-- (`start_factor`, `open_size`, `open_rank`), the rule of a number (`rule_of`), what an accepted finish gives of a factor (`finish_result`, `finish_choice`,
-- `finish_multipliers`), and the numbers (`sweep_number`, `finish_number`, `exchange_number`), which proofs/Answered.antt shows to be 01's. When a check is due, its stop
-- tests, how sweeps done, last objective, stage, status and total move, and what a refused call leaves are its own, here and in specs/Schedule.antt.
-- That the total is the number of pairs of sweep and row that 02's Note 2 speaks of is proved in proofs/Counting.antt, by specs/Log.antt.
use Rattle.std.specs.Prelude.{ℕ, zero, suc, ◌+◌, cond, List, [], ◌∷◌, length, eqb, Float}
use Rattle.std.proofs.Math.Option.{Option, some, none}
use Rattle.maxcut_oracle.specs.Check.{check_objective, check_residual, check_threshold}
use Rattle.maxcut_oracle.specs.Table.{work_objective}
use Rattle.step_rules.specs.declared.StepRule.{StepRule}
use Rattle.step_rules.specs.Rule.{rule_of, stepped, standing_in}
use Rattle.run_record.specs.declared.Stage.{Stage}
use Rattle.run_record.specs.declared.Stage.TheVariants.{Open, Stopped}
use Rattle.run_record.specs.declared.Run.{Run}
use Rattle.tables.specs.CostTable.{CostTable}
use Rattle.run_record.specs.Numbers.{sweep_number, FinishLengths, finish_number, exchange_number}
use Rattle.run_sweep.specs.Work.{Work, sign_table_of, call_work}
use Rattle.run_contract.specs.declared.FinishResult.{FinishResult}
use Rattle.run_contract.specs.Calls.{Settings, open_size, open_rank, start_factor, finish_result, finish_choice, finish_multipliers}
use Rattle.run_contract.specs.Schedule.{is_due, coordinate_momentum, Look, verdict}

-- "Its state: factor, size, rank, rule, tolerances, limits, sweeps done, last objective, stage, status."; and the rows left standing: "01's plain run
-- keeps it too" (02, Note 2)
pub record Plain : Type 0 where
  pub factor : List Float
  pub size : ℕ
  pub rank : ℕ
  pub rule : StepRule
  pub objective_tolerance : Float
  pub stationarity_tolerance : Float
  pub most : ℕ
  pub minimum : ℕ
  pub sweeps : ℕ
  pub last : Float
  pub stage : Stage
  pub status : ℕ
  pub standing : ℕ

-- "the arguments of .. each sweep and finish call except the contents of run record and factor; lengths of lent slices are included, and each
-- call may bring another table"
pub record SweepCall : Type 0 where
  pub table : CostTable
  pub k : ℕ
  pub factor_length : ℕ

pub record FinishCall : Type 0 where
  pub table : CostTable
  pub width : ℕ
  pub draw_count : ℕ
  pub draws : List Float
  pub factor_length : ℕ
  pub b_length : ℕ
  pub dual_length : ℕ
  pub workspace_length : ℕ

-- "A call on an open run exchanges rule and number"; "Demand 3's lists take exchanges too" (02, Note 12)
pub record ExchangeCall : Type 0 where
  pub rule : ℕ
  pub number : Float

pub data Call : Type 0 where
  sweep : SweepCall → Call
  finish : FinishCall → Call
  exchange : ExchangeCall → Call

-- ---- open

-- "Open makes the start's factor, takes the settings, rank 0 as the number it means, sets sweeps done and status to 0, the stage as above, the
-- last objective by 000."; "an accepted open, which sets it to 0"
unfoldable pub plain_open : Settings → Plain
plain_open o =
    record {
      factor = start_factor o;
      size = open_size o;
      rank = open_rank o;
      rule = rule_of o.rule o.number;
      objective_tolerance = o.objective_tolerance;
      stationarity_tolerance = o.stationarity_tolerance;
      most = o.most;
      minimum = o.minimum;
      sweeps = 0;
      last = work_objective (sign_table_of o.table) (open_rank o) (start_factor o);
      stage = cond (eqb o.most 0) Stopped Open;
      status = 0;
      standing = 0;
    }

-- ---- one sweep; the call's table has its diagonal set aside

-- "one sweep of 001 by the rule over the call's table"
unfoldable pub swept_factor : Work → Plain → List Float
swept_factor w p = stepped p.rule w.rows w.cols w.values w.starts p.size p.rank p.factor

-- of its rows those that it leaves as they were, under rules 3 and 4
unfoldable pub rows_left : Work → Plain → ℕ
rows_left w p = standing_in p.rule w.cols w.values w.starts p.size p.rank p.factor

-- "sweeps done rise by 1"; the total rises by the rows left
unfoldable pub swept : Work → Plain → Plain
swept w p =
    record {
      factor = swept_factor w p;
      size = p.size;
      rank = p.rank;
      rule = p.rule;
      objective_tolerance = p.objective_tolerance;
      stationarity_tolerance = p.stationarity_tolerance;
      most = p.most;
      minimum = p.minimum;
      sweeps = p.sweeps + 1;
      last = p.last;
      stage = p.stage;
      status = p.status;
      standing = p.standing + rows_left w p;
    }

-- the state with another last objective, stage and status
abbrev pub with_stop : Plain → Float → Stage → ℕ → Plain
with_stop p last stage status =
    record {
      factor = p.factor;
      size = p.size;
      rank = p.rank;
      rule = p.rule;
      objective_tolerance = p.objective_tolerance;
      stationarity_tolerance = p.stationarity_tolerance;
      most = p.most;
      minimum = p.minimum;
      sweeps = p.sweeps;
      last = last;
      stage = stage;
      status = status;
      standing = p.standing;
    }

-- the state with another rule: "its plain run then setting rule and number alone" (02, Note 12)
unfoldable pub with_rule : Plain → StepRule → Plain
with_rule p rule =
    record {
      factor = p.factor;
      size = p.size;
      rank = p.rank;
      rule = rule;
      objective_tolerance = p.objective_tolerance;
      stationarity_tolerance = p.stationarity_tolerance;
      most = p.most;
      minimum = p.minimum;
      sweeps = p.sweeps;
      last = p.last;
      stage = p.stage;
      status = p.status;
      standing = p.standing;
    }

-- what a check looks at: the objective, and the rest that its stop tests take
unfoldable pub objective_at : Work → Plain → Float
objective_at w p = check_objective w.cols w.values w.starts p.size p.rank p.factor

unfoldable pub look_at : Work → Plain → Look
look_at w p =
    record {
      iterations = p.sweeps;
      min_iterations = p.minimum;
      residual = check_residual w.cols w.values w.starts p.size p.rank p.factor;
      threshold = check_threshold w.cols w.values w.starts p.size p.rank p.factor p.stationarity_tolerance;
      momentum = coordinate_momentum p.rule;
      new = objective_at w p;
      previous = p.last;
      tolerance = p.objective_tolerance;
    }

-- the status that the check finds, 0 where the run goes on
abbrev pub found_status : Work → Plain → ℕ
found_status w p = verdict (look_at w p)

-- a check keeps its objective; a status above 0 stops the run with it
abbrev pub stops : ℕ → Float → Plain → Plain
stops zero new p = with_stop p new p.stage p.status
stops (suc status) new p = with_stop p new Stopped (suc status)

-- "a check that is due acts as above"
unfoldable pub checked : Work → Plain → Plain
checked w p = cond (is_due p.sweeps p.minimum p.most) (stops (found_status w p) (objective_at w p) p) p

-- "at the most the stage is stopped"
unfoldable pub at_most : Plain → Plain
at_most p = cond (eqb p.sweeps p.most) (with_stop p p.last Stopped p.status) p

-- "Sweep, while open and fewer than k are made in this call"
abbrev pub if_open : Stage → Plain → Plain → Plain
if_open Open next p = next
if_open Stopped next p = p

unfoldable pub plain_sweeps : ℕ → Work → Plain → Plain
plain_sweeps zero w p = p
plain_sweeps (suc k) w p = if_open p.stage (plain_sweeps k w (at_most (checked w (swept w p)))) p

-- ---- a call

-- the state but its factor, on which numbers are judged
unfoldable pub record_of : Plain → Run
record_of p =
    record {
      size = p.size;
      rank = p.rank;
      rule = p.rule;
      sweeps = p.sweeps;
      last_objective = p.last;
      objective_tolerance = p.objective_tolerance;
      stationarity_tolerance = p.stationarity_tolerance;
      most = p.most;
      minimum = p.minimum;
      stage = p.stage;
      status = p.status;
      standing = p.standing;
    }

abbrev pub lengths_of : FinishCall → FinishLengths
lengths_of f =
    record { draws = length f.draws; factor = f.factor_length; b = f.b_length; dual = f.dual_length; workspace = f.workspace_length }

-- the first number that applies to a call, "judged on this state and its arguments", 0 where none does
unfoldable pub plain_number : Plain → Call → ℕ
plain_number p (sweep s) = sweep_number (record_of p) s.table s.factor_length
plain_number p (finish f) = finish_number (record_of p) f.table f.width f.draw_count (lengths_of f)
plain_number p (exchange e) = exchange_number (record_of p) e.rule e.number

-- "Finish changes nothing."
abbrev pub acted : Plain → Call → Plain
acted p (sweep s) = plain_sweeps s.k (call_work s.table) p
acted p (finish f) = p
acted p (exchange e) = with_rule p (rule_of e.rule e.number)

-- "A call to which a number applies .. changes nothing."
unfoldable pub plain_after : Plain → Call → Plain
plain_after p call = cond (eqb (plain_number p call) 0) (acted p call) p

-- what an accepted finish gives: its result, the choice, the multipliers
pub record Given : Type 0 where
  pub result : FinishResult
  pub b : List ℕ
  pub dual : List Float

-- it rounds the plain run's factor
unfoldable pub finish_of : Plain → FinishCall → Given
finish_of p f =
    record {
      result = finish_result (record_of p) f.table f.width f.draw_count f.draws p.factor;
      b = finish_choice (record_of p) f.table f.width f.draw_count f.draws p.factor;
      dual = finish_multipliers (record_of p) f.table p.factor;
    }

abbrev pub given_by : Plain → Call → Option Given
given_by p (sweep s) = none
given_by p (finish f) = some (finish_of p f)
given_by p (exchange e) = none

-- ---- a list of calls

-- what is seen of a call: its number; the run record after it, so sweeps done, stage, status and rows left standing, and the factor; and what an
-- accepted finish gave
pub record Seen : Type 0 where
  pub number : ℕ
  pub run : Run
  pub factor : List Float
  pub given : Option Given

abbrev pub seen_at : ℕ → Option Given → Plain → Seen
seen_at number given p = record { number = number; run = record_of p; factor = p.factor; given = given }

unfoldable pub plain_seen : Plain → Call → Seen
plain_seen p call = seen_at (plain_number p call) (cond (eqb (plain_number p call) 0) (given_by p call) none) (plain_after p call)

abbrev pub plain_trace : Plain → List Call → List Seen
plain_trace p [] = []
plain_trace p (call ∷ calls) = plain_seen p call ∷ plain_trace (plain_after p call) calls
