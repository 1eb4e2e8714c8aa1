-- What each number of open, sweep, finish and the exchange of a rule says, in 01's words ("Numbers from the input", "Numbers from the state"): each condition a proposition,
-- each call a list of its numbers with their conditions, in 01's order. That `open_number`, `sweep_number` and `finish_number` answer by them is
-- proved in proofs/Answered.antt. Definitions only.
use Rattle.std.specs.Prelude.{ℕ, suc, ◌+◌, ◌*◌, ◌<◌, ◌≤◌, ◌≡◌, Bool, true, cond, List, [], ◌∷◌, ◌++◌, eqb, ℤ, length, Float}
use Rattle.std.specs.Float.{fin}
use Rattle.std.specs.Float.Ieee.{lt, le}
use Rattle.ieee.specs.Floats.{zero64, one64}
use Rattle.step_rules.specs.declared.StepRule.{StepRule}
use Rattle.step_rules.specs.declared.StepRule.TheVariants.{CoordMomentum}
use Rattle.limits.specs.Limits.{most_wagons, most_entries, most_magnitude, most_rank, most_width, most_draws, search_workspace}
use Rattle.tables.specs.Table.{Table, Before}
use Rattle.tables.specs.Check.{hall_magnitude}
use Rattle.run_limits.specs.Rank.{rank_meant}
use Rattle.run_limits.specs.Start.{start_length}
use Rattle.run_record.specs.declared.Stage.TheVariants.{Open, Stopped}
use Rattle.run_record.specs.declared.Run.{Run}
use Rattle.tables.specs.CostTable.{CostTable, quadratic, linear}
use Rattle.run_record.specs.Numbers.{FinishLengths}

-- ---- numbers with their conditions, in the order in which they are judged

pub record Clause : Type 1 where
  pub number : ℕ
  pub condition : Type 0

infix 80 ◌when◌
abbrev pub ◌when◌ : ℕ → Type 0 → Clause
k when condition = record { number = k; condition = condition }

-- number k's own condition holds; none does that stands before k's (for 0, which has no clause: none at all)
abbrev pub Holds : ℕ → List Clause → Type 0
Holds k [] = ⊥
Holds k (c ∷ rest) = cond (eqb k c.number) c.condition (Holds k rest)

abbrev pub NoneBefore : ℕ → List Clause → Type 0
NoneBefore k [] = Unit {0}
NoneBefore k (c ∷ rest) = cond (eqb k c.number) (Unit {0}) ((c.condition → ⊥) × NoneBefore k rest)

-- what is promised of the number that a call answers
pub record Answered (number : ℕ) (clauses : List Clause) : Type 0 where
  -- "No number is answered where its own condition .. doesn't hold", nor where the condition of one before it holds; 0 only where none holds
  pub holds : (number ≡ 0 → ⊥) → Holds number clauses
  pub first : NoneBefore number clauses
  -- and where a number's condition holds, and that of none before it, it is the answer; where none holds, 0 is
  pub only : (k : ℕ) → Holds k clauses → NoneBefore k clauses → number ≡ k
  pub none : NoneBefore 0 clauses → number ≡ 0

-- ---- the table: 13 to 16

-- "n .. or entry count"
pub data BadSize (t : CostTable) : Type 0 where
  wagons_above : most_wagons < t.n → BadSize t
  entries_above : most_entries < t.count → BadSize t

-- "entry out of range or order"
pub data BadEntry (n : ℕ) (h : Table) : Type 0 where
  row_out : (k : ℕ) → k < h.count → n ≤ h.row k → BadEntry n h
  column_out : (k : ℕ) → k < h.count → n ≤ h.column k → BadEntry n h
  out_of_order : (k : ℕ) → suc k < h.count → (Before (h.row k) (h.column k) (h.row (suc k)) (h.column (suc k)) → ⊥) → BadEntry n h

-- "mirror absent or unequal": of some entry (i, j, v) no entry is (j, i, v)
pub record Unmirrored (h : Table) : Type 0 where
  pub entry : ℕ
  pub stored : entry < h.count
  pub alone : (l : ℕ) → l < h.count → h.row l ≡ h.column entry → h.column l ≡ h.row entry → h.value l ≡ h.value entry → ⊥

-- "magnitude": "sum of |H_ij| over stored entries, plus twice the sum of |c_i|; at most 2^40"
abbrev pub TooLarge : CostTable → Type 0
TooLarge t = most_magnitude < hall_magnitude t.n (quadratic t) (linear t)

abbrev pub table_clauses : CostTable → List Clause
table_clauses t =
    13 when BadSize t
    ∷ 14 when BadEntry t.n (quadratic t)
    ∷ 15 when Unmirrored (quadratic t)
    ∷ 16 when TooLarge t
    ∷ []

-- ---- 17 to 19

-- "rank above 32, or 0 with start 1"
pub data BadRank (rank start : ℕ) : Type 0 where
  rank_high : most_rank < rank → BadRank rank start
  rank_missing : rank ≡ 0 → start ≡ 1 → BadRank rank start

-- "Momentum (rule 4's number, beta) is finite, 0 ≤ beta < 1"
pub record Finite (x : Float) : Type 0 where
  pub negative : Bool
  pub digits : ℕ
  pub exponent : ℤ
  pub value : x ≡ fin negative digits exponent

pub record Momentum (beta : Float) : Type 0 where
  pub finite : Finite beta
  pub from_zero : le zero64 beta ≡ true
  pub below_one : lt beta one64 ≡ true

-- "rule above 4, or momentum"
pub data BadRule (rule : ℕ) (number : Float) : Type 0 where
  rule_above : 4 < rule → BadRule rule number
  no_momentum : rule ≡ 4 → (Momentum number → ⊥) → BadRule rule number

-- "a bad momentum in the record is 18"
pub record BadMomentum (rule : StepRule) : Type 0 where
  pub beta : Float
  pub rule_four : rule ≡ CoordMomentum beta
  pub no_momentum_there : Momentum beta → ⊥

-- "W .. or draws not 1 to 1,000"
pub data BadDraws (width draw_count : ℕ) : Type 0 where
  width_above : most_width < width → BadDraws width draw_count
  draws_none : draw_count ≡ 0 → BadDraws width draw_count
  draws_above : most_draws < draw_count → BadDraws width draw_count

-- ---- 33

-- what the record alone says: "the record's rank is 0 or above 32, its sweeps done are above the most, or at the most while open, its status is
-- above 2, or not 0 while open"; and 02's Note 2: "A record whose total is above m times its sweeps done"
pub data OwnFault (run : Run) : Type 0 where
  rank_none : run.rank ≡ 0 → OwnFault run
  rank_above : most_rank < run.rank → OwnFault run
  sweeps_above : run.most < run.sweeps → OwnFault run
  most_while_open : run.stage ≡ Open → run.sweeps ≡ run.most → OwnFault run
  status_above : 2 < run.status → OwnFault run
  status_while_open : run.stage ≡ Open → (run.status ≡ 0 → ⊥) → OwnFault run
  total_above : run.size * run.sweeps < run.standing → OwnFault run

-- "run record and table disagree in size", or that
pub data BadRecord (run : Run) (n : ℕ) : Type 0 where
  sizes_disagree : (run.size ≡ n + 1 → ⊥) → BadRecord run n
  own_fault : OwnFault run → BadRecord run n

-- ---- 31: "lent slice too short; a length that rests on a number which is itself refused isn't tested"

-- entries rest on the count, c on n
pub data TableTooShort (t : CostTable) : Type 0 where
  rows_short : t.count ≤ most_entries → length t.rows < t.count → TableTooShort t
  cols_short : t.count ≤ most_entries → length t.cols < t.count → TableTooShort t
  values_short : t.count ≤ most_entries → length t.values < t.count → TableTooShort t
  costs_short : t.n ≤ most_wagons → length t.c < t.n → TableTooShort t

-- the factor, m rows of rank numbers, rests on n and on the record's size and rank
pub record FactorTooShort (run : Run) (n lent : ℕ) : Type 0 where
  pub wagons_few : n ≤ most_wagons
  pub sizes_agree : run.size ≡ n + 1
  pub rank_some : 1 ≤ run.rank
  pub rank_few : run.rank ≤ most_rank
  pub factor_less : lent < run.size * run.rank

-- the draws rest on their count and on the record's rank
pub record DrawsTooShort (rank draw_count lent : ℕ) : Type 0 where
  pub draws_some : 1 ≤ draw_count
  pub draws_few : draw_count ≤ most_draws
  pub drawn_some : 1 ≤ rank
  pub drawn_few : rank ≤ most_rank
  pub draws_less : lent < draw_count * rank

pub data SweepTooShort (run : Run) (t : CostTable) (factor : ℕ) : Type 0 where
  sweep_table : TableTooShort t → SweepTooShort run t factor
  sweep_factor : FactorTooShort run t.n factor → SweepTooShort run t factor

-- b and the multipliers rest on n
pub data FinishTooShort (run : Run) (t : CostTable) (draw_count : ℕ) (lent : FinishLengths) : Type 0 where
  finish_table : TableTooShort t → FinishTooShort run t draw_count lent
  finish_draws : DrawsTooShort run.rank draw_count lent.draws → FinishTooShort run t draw_count lent
  finish_factor : FactorTooShort run t.n lent.factor → FinishTooShort run t draw_count lent
  finish_b : t.n ≤ most_wagons → lent.b < t.n → FinishTooShort run t draw_count lent
  finish_dual : t.n ≤ most_wagons → lent.dual < t.n + 1 → FinishTooShort run t draw_count lent
  finish_workspace : lent.workspace < search_workspace → FinishTooShort run t draw_count lent

-- the start's numbers rest on n, the rank and the start's kind, the factor on n and the rank; rank 0 as the number it means
pub data OpenTooShort (t : CostTable) (rank most start numbers factor : ℕ) : Type 0 where
  open_table : TableTooShort t → OpenTooShort t rank most start numbers factor
  open_start : t.n ≤ most_wagons → (BadRank rank start → ⊥) → start ≤ 2 → numbers < start_length start (t.n + 1) (rank_meant (t.n + 1) rank) most
      → OpenTooShort t rank most start numbers factor
  open_factor : t.n ≤ most_wagons → (BadRank rank start → ⊥) → factor < (t.n + 1) * rank_meant (t.n + 1) rank
      → OpenTooShort t rank most start numbers factor

-- ---- the calls; 32: "sweep when stopped, finish before"

abbrev pub open_clauses : CostTable → ℕ → ℕ → Float → ℕ → ℕ → ℕ → ℕ → List Clause
open_clauses t rank rule number most start numbers factor =
    31 when OpenTooShort t rank most start numbers factor
    ∷ (table_clauses t
    ++ (17 when BadRank rank start
    ∷ 18 when BadRule rule number
    ∷ 19 when (2 < start)
    ∷ []))

abbrev pub sweep_clauses : Run → CostTable → ℕ → List Clause
sweep_clauses run t factor =
    31 when SweepTooShort run t factor
    ∷ 32 when (run.stage ≡ Stopped)
    ∷ 33 when BadRecord run t.n
    ∷ (table_clauses t
    ++ (18 when BadMomentum run.rule
    ∷ []))

-- a run among several (02, Note 11): its stage is no matter
abbrev pub member_clauses : Run → CostTable → ℕ → List Clause
member_clauses run t factor = 31 when SweepTooShort run t factor ∷ 33 when BadRecord run t.n ∷ (table_clauses t ++ (18 when BadMomentum run.rule ∷ []))

abbrev pub finish_clauses : Run → CostTable → ℕ → ℕ → FinishLengths → List Clause
finish_clauses run t width draw_count lent =
    31 when FinishTooShort run t draw_count lent
    ∷ 32 when (run.stage ≡ Open)
    ∷ 33 when BadRecord run t.n
    ∷ (table_clauses t
    ++ (18 when BadMomentum run.rule
    ∷ 19 when BadDraws width draw_count
    ∷ []))

-- "Number 18 serves a bad rule" (02, Note 12): the one that is asked for, or a bad momentum in the record
pub data BadExchange (run : Run) (rule : ℕ) (number : Float) : Type 0 where
  old_momentum : BadMomentum run.rule → BadExchange run rule number
  new_rule : BadRule rule number → BadExchange run rule number

-- "32 a stopped run"
abbrev pub exchange_clauses : Run → ℕ → Float → List Clause
exchange_clauses run rule number =
    32 when (run.stage ≡ Stopped)
    ∷ 33 when OwnFault run
    ∷ 18 when BadExchange run rule number
    ∷ []
