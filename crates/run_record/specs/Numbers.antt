-- The refusal numbers of open, sweep, finish and the exchange of a rule: for each call the first of its numbers, in 01's order, whose condition holds. Assumes nothing.
use Rattle.std.specs.Prelude.{ℕ, ◌+◌, ◌*◌, Bool, true, false, not, ◌&&◌, ◌||◌, List, [], ◌∷◌, ltb, eqb, Float}
use Rattle.step_rules.specs.declared.StepRule.{StepRule}
use Rattle.step_rules.specs.declared.StepRule.TheVariants.{Grad, GradAdv, Coord, CoordNoStep, CoordMomentum}
use Rattle.run_record.specs.declared.Stage.{Stage}
use Rattle.run_record.specs.declared.Stage.TheVariants.{Open, Stopped}
use Rattle.run_record.specs.declared.Run.{Run}
use Rattle.laws.specs.Refusal.{first, ◌if◌, any_of, short}
use Rattle.limits.specs.Limits.{most_wagons, most_entries, most_magnitude, most_rank, most_width, search_workspace}
use Rattle.tables.specs.Check.{hall_number}
unfoldable pub use Rattle.tables.specs.Check.{short_hall as table_short}
use Rattle.run_limits.specs.Rank.{rank_meant}
use Rattle.run_limits.specs.Momentum.{is_momentum}
use Rattle.run_limits.specs.Start.{start_length}
use Rattle.run_limits.specs.Draws.{bad_draws}
use Rattle.tables.specs.CostTable.{CostTable, quadratic, linear}

abbrev pub is_stopped : Stage → Bool
is_stopped Open = false
is_stopped Stopped = true

-- the factor's length rests on n, and on the record's size and rank
unfoldable pub factor_refused : ℕ → ℕ → ℕ → Bool
factor_refused n size rank = any_of (ltb most_wagons n ∷ not (eqb size (n + 1)) ∷ eqb rank 0 ∷ ltb most_rank rank ∷ [])

unfoldable pub factor_short : ℕ → ℕ → ℕ → ℕ → Bool
factor_short n size rank lent = short (factor_refused n size rank) (size * rank) lent

-- 33 of the record alone: its rank, its sweeps done, its status, its rows left standing
abbrev pub own_faults : Run → List Bool
own_faults run =
    eqb run.rank 0
    ∷ ltb most_rank run.rank
    ∷ ltb run.most run.sweeps
    ∷ (not (is_stopped run.stage) && eqb run.sweeps run.most)
    ∷ ltb 2 run.status
    ∷ (not (is_stopped run.stage) && not (eqb run.status 0))
    ∷ ltb (run.size * run.sweeps) run.standing
    ∷ []

unfoldable pub own_refused : Run → Bool
own_refused run = any_of (own_faults run)

-- 33: run record and table disagree in size, or that
unfoldable pub record_refused : Run → ℕ → Bool
record_refused run n = any_of (not (eqb run.size (n + 1)) ∷ own_faults run)

-- 13 to 16, of the table given
abbrev pub cost_table_number : CostTable → ℕ
cost_table_number t = hall_number most_wagons most_entries most_magnitude t.n (quadratic t) (linear t)

-- 18 of a record's rule: only rule 4 has a momentum
abbrev pub bad_momentum : StepRule → Bool
bad_momentum (Grad step) = false
bad_momentum (GradAdv step) = false
bad_momentum (Coord step) = false
bad_momentum CoordNoStep = false
bad_momentum (CoordMomentum beta) = not (is_momentum beta)

-- the sweep call, lent so many numbers of factor; it is lent no workspace
unfoldable pub sweep_short : Run → CostTable → ℕ → Bool
sweep_short run t factor = any_of (table_short t ∷ factor_short t.n run.size run.rank factor ∷ [])

unfoldable pub sweep_number : Run → CostTable → ℕ → ℕ
sweep_number run t factor =
    first
    (31 if sweep_short run t factor
    ∷ 32 if is_stopped run.stage
    ∷ 33 if record_refused run t.n
    ∷ cost_table_number t
    ∷ 18 if bad_momentum run.rule
    ∷ [])

-- a run among several, as its turn judges it: a stopped run is judged like an open one
unfoldable pub member_number : Run → CostTable → ℕ → ℕ
member_number run t factor = first (31 if sweep_short run t factor ∷ 33 if record_refused run t.n ∷ cost_table_number t ∷ 18 if bad_momentum run.rule ∷ [])

-- the finish call: draws rest on their count and on the record's rank, b and the multipliers on n
unfoldable pub draws_short : ℕ → ℕ → ℕ → Bool
draws_short rank draw_count draws = short (any_of (bad_draws draw_count ∷ eqb rank 0 ∷ ltb most_rank rank ∷ [])) (draw_count * rank) draws

unfoldable pub choice_short : ℕ → ℕ → ℕ → Bool
choice_short n b dual = any_of (short (ltb most_wagons n) n b ∷ short (ltb most_wagons n) (n + 1) dual ∷ [])

-- how long the slices are that a finish is lent
pub record FinishLengths : Type 0 where
  pub draws : ℕ
  pub factor : ℕ
  pub b : ℕ
  pub dual : ℕ
  pub workspace : ℕ

unfoldable pub finish_short : Run → CostTable → ℕ → FinishLengths → Bool
finish_short run t draw_count lent =
    any_of
    (table_short t
    ∷ draws_short run.rank draw_count lent.draws
    ∷ factor_short t.n run.size run.rank lent.factor
    ∷ choice_short t.n lent.b lent.dual
    ∷ ltb lent.workspace search_workspace
    ∷ [])

-- 19: the width or the draws
unfoldable pub width_refused : ℕ → ℕ → Bool
width_refused width draw_count = ltb most_width width || bad_draws draw_count

unfoldable pub finish_number : Run → CostTable → ℕ → ℕ → FinishLengths → ℕ
finish_number run t width draw_count lent =
    first
    (31 if finish_short run t draw_count lent
    ∷ 32 if not (is_stopped run.stage)
    ∷ 33 if record_refused run t.n
    ∷ cost_table_number t
    ∷ 18 if bad_momentum run.rule
    ∷ 19 if width_refused width draw_count
    ∷ [])

-- the open call: the factor rests on n and rank; the start's numbers on these and on the start's kind
unfoldable pub open_rank_refused : ℕ → ℕ → Bool
open_rank_refused rank start = ltb most_rank rank || (eqb rank 0 && eqb start 1)

unfoldable pub start_short : ℕ → ℕ → ℕ → ℕ → ℕ → Bool
start_short n rank most start numbers =
    short (any_of (ltb most_wagons n ∷ open_rank_refused rank start ∷ ltb 2 start ∷ [])) (start_length start (n + 1) (rank_meant (n + 1) rank) most) numbers

unfoldable pub open_factor_short : ℕ → ℕ → ℕ → ℕ → Bool
open_factor_short n rank start factor = short (any_of (ltb most_wagons n ∷ open_rank_refused rank start ∷ [])) ((n + 1) * rank_meant (n + 1) rank) factor

unfoldable pub open_short : CostTable → ℕ → ℕ → ℕ → ℕ → ℕ → Bool
open_short t rank most start numbers factor =
    any_of (table_short t ∷ start_short t.n rank most start numbers ∷ open_factor_short t.n rank start factor ∷ [])

-- 18 of a rule's code with its number
unfoldable pub rule_refused : ℕ → Float → Bool
rule_refused rule number = ltb 4 rule || (eqb rule 4 && not (is_momentum number))

unfoldable pub open_number : CostTable → ℕ → ℕ → Float → ℕ → ℕ → ℕ → ℕ → ℕ
open_number t rank rule number most start numbers factor =
    first
    (31 if open_short t rank most start numbers factor
    ∷ cost_table_number t
    ∷ 17 if open_rank_refused rank start
    ∷ 18 if rule_refused rule number
    ∷ 19 if ltb 2 start
    ∷ [])

-- the exchange of a run's rule (02, Note 12), on the record alone: 33 is what a call without a table can judge of it
unfoldable pub exchange_number : Run → ℕ → Float → ℕ
exchange_number run rule number =
    first
    (32 if is_stopped run.stage
    ∷ 33 if own_refused run
    ∷ 18 if (bad_momentum run.rule || rule_refused rule number)
    ∷ [])
