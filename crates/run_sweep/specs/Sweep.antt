-- Sweeps of a run record and its factor, up to k, with the schedule of checks and the stops. Assumes nothing.
use Rattle.std.specs.Prelude.{ℕ, zero, suc, ◌+◌, ◌%◌, Bool, not, ◌&&◌, cond, List, [], ◌∷◌, leb, eqb, Float}
use Rattle.std.specs.Float.Ieee.{neg, lt, le}
use Rattle.run_record.specs.declared.Stage.{Stage}
use Rattle.run_record.specs.declared.Stage.TheVariants.{Open, Stopped}
use Rattle.run_record.specs.declared.Run.{Run}
use Rattle.laws.specs.Refusal.{first, ◌if◌, any_of}
use Rattle.ieee.specs.Floats.{◌-ᶠ◌, zero64}
use Rattle.maxcut_oracle.specs.Check.{check_objective, check_residual, check_threshold}
use Rattle.step_rules.specs.Rule.{tests_objective, stepped, standing_in}
use Rattle.run_sweep.specs.Work.{Work}

-- a check is due at sweep 1, the minimum, the most and every 20th
unfoldable pub check_due : ℕ → ℕ → ℕ → Bool
check_due sweeps minimum most = any_of (eqb sweeps 1 ∷ eqb sweeps minimum ∷ eqb sweeps most ∷ eqb (sweeps % 20) 0 ∷ [])

abbrev pub absolute : Float → Float
absolute x = cond (lt x zero64) (neg x) x

-- the status with which a check stops the run, 0 where it goes on: 1 for a small residual from the minimum on; for a rule that tests the
-- objective 1 for a small change, 2 for a rise
unfoldable pub stop_status : Bool → Float → Bool → Float → Float → ℕ
stop_status tests tolerance settled previous new =
    first
    (1 if settled
    ∷ 1 if (tests && lt (absolute (new -ᶠ previous)) tolerance)
    ∷ 2 if (tests && lt previous new)
    ∷ [])

-- what a check looks at: the objective, and whether the residual is within the tolerance's threshold
unfoldable pub new_objective : Work → ℕ → ℕ → List Float → Float
new_objective w m rank factor = check_objective w.cols w.values w.starts m rank factor

unfoldable pub stationary : Work → ℕ → ℕ → List Float → Float → Bool
stationary w m rank factor tolerance =
    le (check_residual w.cols w.values w.starts m rank factor) (check_threshold w.cols w.values w.starts m rank factor tolerance)

-- the residual test of one more sweep: from the minimum on
unfoldable pub settled_at : Run → Work → List Float → Bool
settled_at run w factor =
    leb run.minimum (run.sweeps + 1) && stationary w run.size run.rank factor run.stationarity_tolerance

-- the status that one more sweep brings, its factor given: 0 where no check is due or the check doesn't stop the run
unfoldable pub status_found : Run → Work → List Float → ℕ
status_found run w factor =
    cond (check_due (run.sweeps + 1) run.minimum run.most)
    (stop_status (tests_objective run.rule) run.objective_tolerance (settled_at run w factor) run.last_objective (new_objective w run.size run.rank factor))
    0

-- the last objective after it: a check's own, whether it stops the run or not
unfoldable pub last_after : Run → Work → List Float → Float
last_after run w factor = cond (check_due (run.sweeps + 1) run.minimum run.most) (new_objective w run.size run.rank factor) run.last_objective

-- a stop, or the most, stops the run
unfoldable pub stage_after : ℕ → Bool → Stage → Stage
stage_after found full stage = cond (any_of (not (eqb found 0) ∷ full ∷ [])) Stopped stage

unfoldable pub status_after : ℕ → ℕ → ℕ
status_after found status = cond (eqb found 0) status found

-- the record after one more sweep, with the last objective, the status and the rows left standing that it brings
unfoldable pub advanced : Run → Float → ℕ → ℕ → Run
advanced run last found left =
    record {
      size = run.size;
      rank = run.rank;
      rule = run.rule;
      sweeps = run.sweeps + 1;
      last_objective = last;
      objective_tolerance = run.objective_tolerance;
      stationarity_tolerance = run.stationarity_tolerance;
      most = run.most;
      minimum = run.minimum;
      stage = stage_after found (eqb (run.sweeps + 1) run.most) run.stage;
      status = status_after found run.status;
      standing = run.standing + left;
    }

-- the record after one more sweep, which left this factor and so many rows as they were
unfoldable pub run_after : Run → Work → List Float → ℕ → Run
run_after run w factor left = advanced run (last_after run w factor) (status_found run w factor) left

-- record and factor
pub record State : Type 0 where
  pub run : Run
  pub factor : List Float

abbrev pub while_open : Stage → State → State → State
while_open Open next last = next
while_open Stopped next last = last

-- one sweep of 001 by the run's rule
abbrev pub swept_once : Work → Run → List Float → List Float
swept_once w run factor = stepped run.rule w.rows w.cols w.values w.starts run.size run.rank factor

-- and the rows that it leaves as they were
abbrev pub standing_once : Work → Run → List Float → ℕ
standing_once w run factor = standing_in run.rule w.cols w.values w.starts run.size run.rank factor

-- up to so many sweeps over the table
unfoldable pub sweeps_up_to : ℕ → Work → Run → List Float → State
sweeps_up_to zero w run factor = record { run = run; factor = factor }
sweeps_up_to (suc k) w run factor =
    while_open run.stage
    (sweeps_up_to k w (run_after run w (swept_once w run factor) (standing_once w run factor)) (swept_once w run factor))
    (record { run = run; factor = factor })
