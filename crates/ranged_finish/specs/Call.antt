-- What the call `finish_ranged` promises: the finish on the high table, the choice's low and high figures, the low table's floor, and what these
-- mean for every table within the ranges.
use Rattle.std.specs.Prelude.{◌≡◌, List, ℕ, Float, ℤ, ◌≤ℤ◌, Result, Ok}
use Rattle.tables.specs.Table.{value_at}
use Rattle.tables.specs.Cost.{cost_eighths, choice_at}
use Rattle.run_record.specs.declared.Run.{Run}
use Rattle.tables.specs.CostTable.{CostTable, quadratic, linear}
use Rattle.run_record.specs.Numbers.{cost_table_number}
use Rattle.finalize.specs.Finalize.{cost_of, floor_eighths}
use Rattle.run_contract.specs.Calls.{answer_number, finish_lengths, Finishes}
use Rattle.ranged_finish.specs.Ranged.{RangedTable, with_values, low_of, high_of, Within}
use Rattle.ranged_finish.specs.Numbers.{ranged_finish_number}
use Rattle.ranged_finish.specs.declared.RangedResult.{RangedResult}

-- the cost of a choice under a table, in eighths
abbrev pub cost_under : CostTable → List ℕ → ℤ
cost_under t b = cost_of t.n (quadratic t) (linear t) b

-- the figures of a choice b: what it costs under the low and under the high table, and the floor of the low one
pub record Figures (t : RangedTable) (b : List ℕ) (low high floor : ℤ) : Type 0 where
  pub low_is : low ≡ cost_under (low_of t) b
  pub high_is : high ≡ cost_under (high_of t) b
  pub floor_is : floor ≡ floor_eighths t.n (quadratic (low_of t)) (linear (low_of t))

-- some table within the ranges, which no number refuses, under which the choice costs just that
pub record Reached (t : RangedTable) (b : List ℕ) (figure : ℤ) : Type 0 where
  pub values : List ℤ
  pub c : List ℤ
  pub accepted : cost_table_number (with_values t values c) ≡ 0
  pub within : Within t (value_at (quadratic (with_values t values c))) (linear (with_values t values c))
  pub costs : cost_under (with_values t values c) b ≡ figure

-- what the figures mean for every (H, c) within the ranges
pub record Ranges (t : RangedTable) (b : List ℕ) (low high floor : ℤ) : Type 0 where
  -- the choice costs at least its low figure and at most its high one
  pub between : (H : ℕ → ℕ → ℤ) (c : ℕ → ℤ) → Within t H c
      → (low ≤ℤ cost_eighths t.n H c (choice_at b)) × (cost_eighths t.n H c (choice_at b) ≤ℤ high)
  -- both are reached
  pub low_reached : Reached t b low
  pub high_reached : Reached t b high
  -- every choice costs at least the floor of the low table
  pub under : (H : ℕ → ℕ → ℤ) (c : ℕ → ℤ) → Within t H c → (b'' : List ℕ) → floor ≤ℤ cost_eighths t.n H c (choice_at b'')

-- from the record and the lent slices to the answer and the slices at exit
pub record RangedFinishes (run : Run) (t : RangedTable) (width draw_count : ℕ) (draws factor : List Float) (b : List ℕ) (dual : List Float) (workspace : List ℕ)
    (answer : Result RangedResult ℕ) (b' : List ℕ) (dual' : List Float) (workspace' : List ℕ) : Type 0 where
  pub numbered : answer_number answer ≡ ranged_finish_number run t width draw_count (finish_lengths draws factor b dual workspace)
  pub refused : (answer_number answer ≡ 0 → ⊥) → (b' ≡ b) × (dual' ≡ dual) × (workspace' ≡ workspace)
  -- where no number applies there is a result
  pub given : answer_number answer ≡ 0 → (x : RangedResult) × (answer ≡ Ok x)
  -- all that a finish promises, of the high table: demand 3 too
  pub finished : (x : RangedResult) → answer ≡ Ok x
      → Finishes run (high_of t) width draw_count draws factor b dual workspace (Ok x.result) b' dual' workspace'
  pub figures : (x : RangedResult) → answer ≡ Ok x → Figures t b' x.low x.high x.low_floor
  pub ranges : (x : RangedResult) → answer ≡ Ok x → Ranges t b' x.low x.high x.low_floor
