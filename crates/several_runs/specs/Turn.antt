-- A turn that up to eight runs share (02, Note 11): its number, who gets how many sweeps, and what the call promises. Tables and factors are
-- lent flat, run after run, so that run i's part is what is left behind the parts of the runs before it. Assumes nothing.
use Rattle.std.specs.Prelude.{ℕ, zero, suc, ◌+◌, ◌-◌, ◌/◌, ◌%◌, ◌≡◌, Bool, cond, List, [], ◌∷◌, ◌++◌, length, get_or, take, drop, ltb, eqb, Float, ℤ}
use Rattle.std.specs.Float.{nan}
use Rattle.limits.specs.Limits.{most_runs, least_turn, most_turn}
use Rattle.laws.specs.Lists.{over, fill}
use Rattle.laws.specs.Refusal.{first, first_of, ◌if◌, any_of}
use Rattle.laws.specs.Sum.{total}
use Rattle.step_rules.specs.declared.StepRule.TheVariants.{Grad}
use Rattle.run_record.specs.declared.Stage.{Stage}
use Rattle.run_record.specs.declared.Stage.TheVariants.{Open, Stopped}
use Rattle.run_record.specs.declared.Run.{Run}
use Rattle.tables.specs.CostTable.{CostTable, cost_table}
use Rattle.run_record.specs.Numbers.{member_number}
use Rattle.run_sweep.specs.Work.{call_work}
use Rattle.run_sweep.specs.Sweep.{State, sweeps_up_to}
use Rattle.run_contract.specs.Calls.{used}
use Rattle.several_runs.specs.declared.HallSize.{HallSize}

-- ---- what is given

-- the record at a place of the array; a place outside it has none, and no call reads one there
abbrev pub blank : Run
blank =
    record {
      size = 0;
      rank = 0;
      rule = Grad nan;
      sweeps = 0;
      last_objective = nan;
      objective_tolerance = nan;
      stationarity_tolerance = nan;
      most = 0;
      minimum = 0;
      stage = Open;
      status = 0;
      standing = 0;
    }

abbrev pub run_at : List Run → ℕ → Run
run_at runs i = get_or runs i blank

abbrev pub no_hall : HallSize
no_hall = record { n = 0; count = 0 }

abbrev pub hall_at : List HallSize → ℕ → HallSize
hall_at halls i = get_or halls i no_hall

-- the tables of all runs: n and count of each, and the entries and costs, run after run
pub record Tables : Type 0 where
  pub n : ℕ → ℕ
  pub count : ℕ → ℕ
  pub rows : List ℕ
  pub cols : List ℕ
  pub values : List ℤ
  pub c : List ℤ

abbrev pub tables_of : List HallSize → List ℕ → List ℕ → List ℤ → List ℤ → Tables
tables_of halls rows cols values c =
    record { n = λ i. (hall_at halls i).n; count = λ i. (hall_at halls i).count; rows = rows; cols = cols; values = values; c = c }

-- run i's table: what is left behind those of the runs before it
unfoldable pub table_at : Tables → ℕ → CostTable
table_at t i =
    cost_table (t.n i) (t.count i) (drop (total i t.count) t.rows) (drop (total i t.count) t.cols) (drop (total i t.count) t.values) (drop (total i t.n) t.c)

-- a number of an open run, 0 of a stopped one
abbrev pub only_open : Stage → ℕ → ℕ
only_open Open x = x
only_open Stopped x = 0

-- where run i's factor starts
unfoldable pub factor_at : (ℕ → Run) → ℕ → ℕ
factor_at at i = total i (λ j. used (at j))

-- ---- the number

-- 25, 26
unfoldable pub bad_turn : ℕ → Bool
bad_turn sweeps = any_of (ltb sweeps least_turn ∷ ltb most_turn sweeps ∷ [])

unfoldable pub bad_count : ℕ → Bool
bad_count count = any_of (eqb count 0 ∷ ltb most_runs count ∷ [])

-- run i's own number, so many numbers of factors being lent in all
unfoldable pub number_at : (ℕ → Run) → Tables → ℕ → ℕ → ℕ
number_at at t lent i = member_number (at i) (table_at t i) (lent - factor_at at i)

unfoldable pub turn_number : ℕ → ℕ → (ℕ → Run) → Tables → ℕ → ℕ
turn_number sweeps count at t lent = first (25 if bad_turn sweeps ∷ 26 if bad_count count ∷ first_of (number_at at t lent) count ∷ [])

-- ---- the shares

-- how many of the runs before i are open
unfoldable pub open_below : (ℕ → Run) → ℕ → ℕ
open_below at i = total i (λ j. only_open (at j).stage 1)

-- "each gets S div a, and the first S mod a of them, by number, one more": the share of the open run that has so many open ones before it
unfoldable pub share : ℕ → ℕ → ℕ → ℕ
share sweeps runs place = sweeps / runs + cond (ltb place (sweeps % runs)) 1 0

unfoldable pub share_of : ℕ → ℕ → (ℕ → Run) → ℕ → ℕ
share_of sweeps count at i = only_open (at i).stage (share sweeps (open_below at count) (open_below at i))

-- ---- what a turn makes

-- run i's record and factor after it: what a sweep call up to its share makes
unfoldable pub turned_at : ℕ → ℕ → (ℕ → Run) → Tables → List Float → ℕ → State
turned_at sweeps count at t factors i =
    sweeps_up_to (share_of sweeps count at i) (call_work (table_at t i)) (at i) (take (used (at i)) (drop (factor_at at i) factors))

-- f 0, .., f (n - 1), one after another
unfoldable pub joined : {A : Type 0} → (ℕ → List A) → ℕ → List A
joined f zero = []
joined f (suc n) = joined f n ++ f n

-- from the records and the lent factors to the number, and records and factors at exit; places from the count on stay, and so does what lies
-- behind the last run's factor
pub record Turns (sweeps count : ℕ) (runs : List Run) (t : Tables) (factors : List Float) (number : ℕ) (runs' : List Run) (factors' : List Float) : Type 0 where
  pub numbered : number ≡ turn_number sweeps count (run_at runs) t (length factors)
  pub refused : (number ≡ 0 → ⊥) → (runs' ≡ runs) × (factors' ≡ factors)
  pub accepted : number ≡ 0
      → (runs' ≡ fill (λ i. (turned_at sweeps count (run_at runs) t factors i).run) count runs)
      × (factors' ≡ over (joined (λ i. (turned_at sweeps count (run_at runs) t factors i).factor) count) factors)
