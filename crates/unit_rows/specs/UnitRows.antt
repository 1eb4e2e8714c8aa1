-- How long a row is (02, Note 14), of the call `sweep` under rule 3. Definitions only.
--     HowLongARowIs     the request: of a call of one sweep
--     EveryLaterSweep   of any number of calls, one after the other
use Rattle.std.specs.Prelude.{ℕ, zero, suc, ◌<◌, ◌≡◌, Bool, true, false, cond, List, Float, length, take}
use Rattle.laws.specs.Rows.{row_of}
use Rattle.ieee.specs.Floats.{at}
use Rattle.row_length.specs.Length.{AtMostTwo, UnitLength, rewrites}
use Rattle.step_rules.specs.declared.StepRule.TheVariants.{CoordNoStep}
use Rattle.run_record.specs.declared.Run.{Run}
use Rattle.run_record.specs.declared.Stage.{Stage}
use Rattle.run_record.specs.declared.Stage.TheVariants.{Open, Stopped}
use Rattle.tables.specs.CostTable.{CostTable}
use Rattle.run_sweep.specs.Work.{Work, call_work}
use Rattle.run_sweep.specs.Sweep.{run_after, swept_once, standing_once}
use Rattle.run_contract.specs.Calls.{Sweeps, used}

-- "a factor whose numbers are all finite and at most 2 in magnitude": those of the run's rows, at the front of the slice that is lent
abbrev pub Tame : Run → List Float → Type 0
Tame run factor = (k : ℕ) → k < used run → AtMostTwo (at factor k)

-- whether a sweep over the table rewrites row i of m rows
abbrev pub rewritten_by : Work → Run → List Float → ℕ → Bool
rewritten_by w run factor i = rewrites w.cols w.values w.starts run.rank factor i

-- whether one of up to k sweeps does, one after the other while the run is open
abbrev pub if_open_rewritten : Stage → Bool → Bool
if_open_rewritten Open b = b
if_open_rewritten Stopped b = false

unfoldable pub ever_rewritten_by : ℕ → Work → Run → List Float → ℕ → Bool
ever_rewritten_by zero w run factor i = false
ever_rewritten_by (suc k) w run factor i =
    if_open_rewritten run.stage
    (cond (rewritten_by w run factor i) true
    (ever_rewritten_by k w (run_after run w (swept_once w run factor) (standing_once w run factor)) (swept_once w run factor) i))

-- the same of a call, its table and the slice that it is lent
abbrev pub rewritten : Run → CostTable → List Float → ℕ → Bool
rewritten run t factor i = rewritten_by (call_work t) run (take (used run) factor) i

abbrev pub ever_rewritten : Run → CostTable → ℕ → List Float → ℕ → Bool
ever_rewritten run t k factor i = ever_rewritten_by k (call_work t) run (take (used run) factor) i

-- what a call does to the rows, those being told by `new` that it rewrites
pub record UnitRows (new : ℕ → Bool) (run : Run) (factor factor' : List Float) : Type 0 where
  -- "each rewritten row shall have a squared length that differs from 1 by at most 2^-40"
  pub rewritten_rows : (i : ℕ) → i < run.size → new i ≡ true → UnitLength (row_of run.rank factor' i)
  -- "rows left standing are outside it": they are as they were
  pub standing_rows : (i : ℕ) → i < run.size → new i ≡ false → row_of run.rank factor' i ≡ row_of run.rank factor i
  -- a row is all of its numbers, as many as the rank
  pub whole_rows : (i : ℕ) → i < run.size → length (row_of run.rank factor' i) ≡ run.rank
  -- and the factor is one that the next sweep can start from
  pub tame : Tame run factor'

-- ---- the request

-- "For one sweep under rule 3, from a factor whose numbers are all finite and at most 2 in magnitude": a call for one sweep, with any outcome that
-- its `ensures` allows. It is accepted, so its run is open, its table is one that a sweep takes, and its rank is 1 to 32
pub record OneSweep (run : Run) (t : CostTable) (factor : List Float) (number : ℕ) (run' : Run) (factor' : List Float) : Type 0 where
  pub says : Sweeps run t 1 factor number run' factor'
  pub accepted : number ≡ 0
  pub rule_3 : run.rule ≡ CoordNoStep
  pub from_tame : Tame run factor

abbrev pub HowLongARowIs : Type 0
HowLongARowIs =
    (run : Run) (t : CostTable) (factor : List Float) (number : ℕ) (run' : Run) (factor' : List Float) → OneSweep run t factor number run' factor'
    → UnitRows (rewritten run t factor) run factor factor'

-- ---- every later sweep of rule 3

-- a refused call rewrites no row
abbrev pub if_accepted : ℕ → Bool → Bool
if_accepted zero b = b
if_accepted (suc number) b = false

-- calls on one run, one after the other: from its record and its m rows to its record and its m rows
pub data Calls : Run → List Float → Run → List Float → Type 0 where
  ends : {run : Run} {rows : List Float} → Calls run rows run rows
  -- sweeps under rule 3: any table, any k, a slice that begins with the rows, any outcome that the `ensures` allows
  sweeps : {run : Run} {rows : List Float} {run'' : Run} {rows'' : List Float}
      (t : CostTable) (k : ℕ) (factor : List Float) (number : ℕ) (run' : Run) (factor' : List Float)
      → run.rule ≡ CoordNoStep
      → take (used run) factor ≡ rows
      → Sweeps run t k factor number run' factor'
      → Calls run' (take (used run) factor') run'' rows''
      → Calls run rows run'' rows''
  -- anything else that leaves the rows as they are: a finish, another rule
  others : {run : Run} {rows : List Float} {run'' : Run} {rows'' : List Float} (run' : Run)
      → run'.size ≡ run.size
      → run'.rank ≡ run.rank
      → Calls run' rows run'' rows''
      → Calls run rows run'' rows''

-- whether one of their sweeps rewrites row i
unfoldable pub rewritten_in : {run : Run} {rows : List Float} {run' : Run} {rows' : List Float} → Calls run rows run' rows' → ℕ → Bool
rewritten_in ends i = false
rewritten_in (sweeps {run = run} t k factor number run' factor' rule front says rest) i = cond (if_accepted number (ever_rewritten run t k factor i)) true (rewritten_in rest i)
rewritten_in (others run' size rank rest) i = rewritten_in rest i

abbrev pub EveryLaterSweep : Type 0
EveryLaterSweep =
    (run : Run) (rows : List Float) (run' : Run) (rows' : List Float) (calls : Calls run rows run' rows') → length rows ≡ used run → Tame run rows
    → UnitRows (rewritten_in calls) run rows rows'
