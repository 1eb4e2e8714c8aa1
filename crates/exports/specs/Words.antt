-- The run record, the settings of an open and the result of a finish as words of 64 bits, which is how C passes them: whole numbers as they are,
-- signed ones in two's complement, doubles as their bits (every NaN as 7FF8000000000000).
use Rattle.std.specs.Prelude.{ℕ, zero, suc, ◌≤◌, cond, List, [], ◌∷◌, T, ltb, Float}
use Rattle.std.specs.Float.{nan, binary64}
use Rattle.std.specs.Float.Ieee.{fits}
use Rattle.laws.specs.Lists.{elem}
use Rattle.ieee.specs.Floats.{double_of, bits_of, bits_of_signed, zero64}
use Rattle.step_rules.specs.declared.StepRule.{StepRule}
use Rattle.step_rules.specs.declared.StepRule.TheVariants.{Grad, GradAdv, Coord, CoordNoStep, CoordMomentum}
use Rattle.step_rules.specs.Rule.{rule_of, rule_number}
use Rattle.run_record.specs.declared.Stage.{Stage}
use Rattle.run_record.specs.declared.Stage.TheVariants.{Open, Stopped}
use Rattle.run_record.specs.declared.Run.{Run}
use Rattle.tables.specs.CostTable.{CostTable}
use Rattle.run_contract.specs.Calls.{Settings, settings_of}
use Rattle.run_contract.specs.declared.FinishResult.{FinishResult}

abbrev pub run_words : ℕ
run_words = 13

abbrev pub setting_words : ℕ
setting_words = 8

abbrev pub result_words : ℕ
result_words = 11

-- a word that is too large for its field is read as the field's largest number
unfoldable pub within : ℕ → ℕ → ℕ
within largest word = cond (ltb largest word) largest word

abbrev pub byte_in : ℕ → ℕ
byte_in word = within 255 word

abbrev pub count_in : ℕ → ℕ
count_in word = within 4294967295 word

-- 0 is open, any other word is stopped
abbrev pub stage_in : ℕ → Stage
stage_in zero = Open
stage_in (suc k) = Stopped

abbrev pub stage_word : Stage → ℕ
stage_word Open = 0
stage_word Stopped = 1

-- a rule above 4 is none: it is read as a momentum that is no number, which is refused by 18
unfoldable pub rule_in : ℕ → Float → StepRule
rule_in word x = cond (ltb 4 word) (CoordMomentum nan) (rule_of word x)

-- the number that a rule carries; rule 3 has none, and 0.0 stands for it
abbrev pub rule_value : StepRule → Float
rule_value (Grad alpha) = alpha
rule_value (GradAdv alpha) = alpha
rule_value (Coord alpha) = alpha
rule_value CoordNoStep = zero64
rule_value (CoordMomentum beta) = beta

-- the run record: size, rank, rule, its number, sweeps done, last objective, objective tolerance, stationarity tolerance, most, minimum, stage, status,
-- rows left standing
unfoldable pub run_in : List ℕ → Run
run_in w =
    record {
      size = elem w 0;
      rank = elem w 1;
      rule = rule_in (elem w 2) (double_of (elem w 3));
      sweeps = count_in (elem w 4);
      last_objective = double_of (elem w 5);
      objective_tolerance = double_of (elem w 6);
      stationarity_tolerance = double_of (elem w 7);
      most = count_in (elem w 8);
      minimum = count_in (elem w 9);
      stage = stage_in (elem w 10);
      status = byte_in (elem w 11);
      standing = elem w 12;
    }

unfoldable pub words_of : Run → List ℕ
words_of run =
    run.size
    ∷ run.rank
    ∷ rule_number run.rule
    ∷ bits_of (rule_value run.rule)
    ∷ run.sweeps
    ∷ bits_of run.last_objective
    ∷ bits_of run.objective_tolerance
    ∷ bits_of run.stationarity_tolerance
    ∷ run.most
    ∷ run.minimum
    ∷ stage_word run.stage
    ∷ run.status
    ∷ run.standing
    ∷ []

-- a record that words can hold, as every one of the machine is: doubles, counts of 32 bits, a status of 8
pub record Fitting (run : Run) : Type 0 where
  pub value_fits : T (fits binary64 (rule_value run.rule))
  pub last_fits : T (fits binary64 run.last_objective)
  pub objective_fits : T (fits binary64 run.objective_tolerance)
  pub stationarity_fits : T (fits binary64 run.stationarity_tolerance)
  pub sweeps_fit : run.sweeps ≤ 4294967295
  pub most_fit : run.most ≤ 4294967295
  pub minimum_fit : run.minimum ≤ 4294967295
  pub status_fits : run.status ≤ 255

-- the settings of an open: rank, rule, its number, most, minimum, objective tolerance, stationarity tolerance, start
unfoldable pub settings_in : CostTable → List ℕ → List Float → Settings
settings_in t w numbers =
    settings_of t (elem w 0) (byte_in (elem w 1)) (double_of (elem w 2)) (count_in (elem w 3)) (count_in (elem w 4)) (double_of (elem w 5)) (double_of (elem w 6))
    (byte_in (elem w 7)) numbers

-- the result of a finish: status, rank, n, sweeps, relaxed objective, float bound, floor, rounded cost, cost, rounds, rows left standing
unfoldable pub result_words_of : FinishResult → List ℕ
result_words_of x =
    x.status
    ∷ x.rank
    ∷ x.n
    ∷ x.sweeps
    ∷ bits_of x.relaxed_objective
    ∷ bits_of x.float_bound
    ∷ bits_of_signed x.floor
    ∷ bits_of_signed x.rounded_cost
    ∷ bits_of_signed x.cost
    ∷ x.rounds
    ∷ x.standing
    ∷ []
