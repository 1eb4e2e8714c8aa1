-- The sweeps that a plain run makes in a list of calls, one after the other: the pairs of sweep and row that stand (02, Note 2), and each sweep's rule
-- in turn (02, Note 12). Definitions only.
use Rattle.std.specs.Prelude.{ℕ, zero, suc, ◌+◌, ◌<◌, ◌≡◌, Bool, false, not, cond, List, [], ◌∷◌, ◌++◌, ◌⊎◌, eqb, Float}
use Rattle.std.proofs.Math.Option.{Option, some, none}
use Rattle.std.specs.Float.Ieee.{le}
use Rattle.laws.specs.Lists.{kept}
use Rattle.ieee.specs.Floats.{tiny, zero64}
use Rattle.coordinate_sweep.specs.Sweep.{sweep_to, norm_at}
use Rattle.step_rules.specs.declared.StepRule.{StepRule}
use Rattle.step_rules.specs.declared.StepRule.TheVariants.{CoordNoStep, CoordMomentum}
use Rattle.step_rules.specs.Rule.{rule_of, stepped}
use Rattle.run_record.specs.declared.Stage.{Stage}
use Rattle.run_record.specs.declared.Stage.TheVariants.{Open, Stopped}
use Rattle.run_sweep.specs.Work.{Work, call_work}
use Rattle.run_contract.specs.Schedule.{coordinate_momentum}
use Rattle.run_contract.specs.PlainRun.{Plain, SweepCall, Call, sweep, finish, exchange, swept, checked, at_most, plain_number, plain_after}

-- ---- the sweeps

-- one sweep of the plain run, before it is made: its number, counted from 1, the rule and the table that it is made by, and the factor's m rows
pub record Made : Type 0 where
  pub number : ℕ
  pub rule : StepRule
  pub work : Work
  pub size : ℕ
  pub rank : ℕ
  pub factor : List Float

abbrev pub made_from : Work → Plain → Made
made_from w p =
    record { number = p.sweeps + 1; rule = p.rule; work = w; size = p.size; rank = p.rank; factor = p.factor }

-- those of one call: "while open and fewer than k are made", as `plain_sweeps`
abbrev pub if_open_made : Stage → List Made → List Made
if_open_made Open sweeps = sweeps
if_open_made Stopped sweeps = []

unfoldable pub made : ℕ → Work → Plain → List Made
made zero w p = []
made (suc k) w p = if_open_made p.stage (made_from w p ∷ made k w (at_most (checked w (swept w p))))

abbrev pub accepted : Plain → Call → List Made
accepted p (sweep s) = made s.k (call_work s.table) p
accepted p (finish f) = []
accepted p (exchange e) = []

-- a refused call makes none
unfoldable pub made_by : Plain → Call → List Made
made_by p call = cond (eqb (plain_number p call) 0) (accepted p call) []

-- those of a list of calls, in order, and the state after it
unfoldable pub log : Plain → List Call → List Made
log p [] = []
log p (call ∷ calls) = made_by p call ++ log (plain_after p call) calls

unfoldable pub plain_end : Plain → List Call → Plain
plain_end p [] = p
plain_end p (call ∷ calls) = plain_end (plain_after p call) calls

-- ---- the pairs

pub record Pair : Type 0 where
  pub sweep_number : ℕ
  pub row : ℕ

abbrev pub pair : ℕ → ℕ → Pair
pair number row = record { sweep_number = number; row = row }

-- the norm of row i at its turn, when the rows before it are made anew; under rule 3 beta is 0.0
abbrev pub norm_in : Made → Float → ℕ → Float
norm_in s beta i =
    norm_at s.work.cols s.work.values s.work.starts s.rank
    (sweep_to s.work.cols s.work.values s.work.starts s.rank beta s.factor i) i

-- "whose norm isn't ≥ 1E-24"
abbrev pub is_left : Made → Float → ℕ → Bool
is_left s beta i = not (le tiny (norm_in s beta i))

-- the pairs of one sweep: none but under rules 3 and 4
abbrev pub stood_by : Option Float → Made → List Pair
stood_by none s = []
stood_by (some beta) s = kept (is_left s beta) (pair s.number) s.size

abbrev pub stood_in : Made → List Pair
stood_in s = stood_by (coordinate_momentum s.rule) s

unfoldable pub pairs : List Made → List Pair
pairs [] = []
pairs (s ∷ sweeps) = stood_in s ++ pairs sweeps

-- ---- what the theorems on them say

-- x is in the list
abbrev pub Among : {A : Type 0} → A → List A → Type 0
Among x [] = ⊥
Among x (y ∷ ys) = (x ≡ y) ⊎ Among x ys

-- no element is in it twice
abbrev pub Once : {A : Type 0} → List A → Type 0
Once [] = Unit {0}
Once (x ∷ xs) = (Among x xs → ⊥) × Once xs

-- the sweeps are numbered on from n, one by one
abbrev pub Numbered : ℕ → List Made → Type 0
Numbered n [] = Unit {0}
Numbered n (s ∷ sweeps) = (s.number ≡ suc n) × Numbered (suc n) sweeps

-- rules 3 and 4, with the number by which their sweeps are made
pub data Coordinate : StepRule → Float → Type 0 where
  rule_3 : Coordinate CoordNoStep zero64
  rule_4 : (beta : Float) → Coordinate (CoordMomentum beta) beta

-- of these sweeps, one that has this number was made under rule 3 or 4 and left this row: at its turn the row's norm wasn't ≥ 1E-24
pub record Stood (sweeps : List Made) (number row : ℕ) : Type 0 where
  pub one : Made
  pub among : Among one sweeps
  pub numbered : one.number ≡ number
  pub beta : Float
  pub under : Coordinate one.rule beta
  pub row_there : row < one.size
  pub norm_small : le tiny (norm_in one beta row) ≡ false

-- ---- each sweep's rule in turn

-- m rows of rank numbers after these sweeps, each by its own rule and over its own table: "applying each sweep's rule in turn"
unfoldable pub applied : ℕ → ℕ → List Made → List Float → List Float
applied m rank [] factor = factor
applied m rank (s ∷ sweeps) factor =
    applied m rank sweeps (stepped s.rule s.work.rows s.work.cols s.work.values s.work.starts m rank factor)

-- the rule after a call with this number: an accepted exchange's own, else the one before
abbrev pub rule_by : ℕ → Call → StepRule → StepRule
rule_by number (sweep s) rule = rule
rule_by number (finish f) rule = rule
rule_by number (exchange e) rule = cond (eqb number 0) (rule_of e.rule e.number) rule

-- that of the last accepted exchange of a list of calls, or the one before them
unfoldable pub rule_after : Plain → List Call → StepRule → StepRule
rule_after p [] rule = rule
rule_after p (call ∷ calls) rule = rule_after (plain_after p call) calls (rule_by (plain_number p call) call rule)

-- a sweep of the log: the accepted sweep call of the list that made it, over whose table, and by the rule that stood after the calls before
pub record MadeIn (p : Plain) (calls : List Call) (s : Made) : Type 0 where
  pub front : List Call
  pub call : SweepCall
  pub back : List Call
  pub split : calls ≡ front ++ (sweep call ∷ back)
  pub accepted_there : plain_number (plain_end p front) (sweep call) ≡ 0
  pub table_is : s.work ≡ call_work call.table
  pub rule_is : s.rule ≡ rule_after p front p.rule
