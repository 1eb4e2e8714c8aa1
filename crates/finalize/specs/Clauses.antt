-- What the accepted part of a finish asks and leaves.
use Rattle.std.specs.Prelude.{ℕ, suc, ◌*◌, ◌≤◌, List, ◌≡◌, ℤ, Float}
use Rattle.laws.specs.Lists.{over}
use Rattle.tables.specs.Table.{Table, floor_of}
use Rattle.tables.specs.Bound.{entrywise}
use Rattle.prepared_table.specs.Work.{diagonal_sum}
use Rattle.maxcut_oracle.specs.Table.{dual_variables}
use Rattle.rounding.specs.Rounding.{rounded_sol}
use Rattle.sign_search.specs.Search.{objective_in, beam_search}
use Rattle.limits.specs.Limits.{most_rank, most_width, most_draws, search_workspace}
use Rattle.finalize.specs.Finalize.{choice_of, floor_eighths, float_bound, diagonal_total, multipliers_of, rounded_cost, searched_choice, searched_cost, searched_rounds}

-- the settings are accepted, and the slices, of these lengths, long enough
pub record Fits (n rank width draw_count : ℕ) (draws factor b multipliers workspace : ℕ) : Type 0 where
  pub rank_some : 1 ≤ rank
  pub rank_few : rank ≤ most_rank
  pub width_few : width ≤ most_width
  pub draws_some : 1 ≤ draw_count
  pub draws_few : draw_count ≤ most_draws
  pub draws_room : draw_count * rank ≤ draws
  pub factor_room : suc n * rank ≤ factor
  pub b_room : n ≤ b
  pub multipliers_room : suc n ≤ multipliers
  pub space_room : search_workspace ≤ workspace

-- every figure is 01's; the choice and the multipliers stand at the front of their slices, whose tails stay
pub record Finalizes (n : ℕ) (h : Table) (c : ℕ → ℤ) (rank width draw_count : ℕ) (draws factor : List Float) (b b' : List ℕ) (multipliers multipliers' : List Float)
    (diagonal bound : Float) (floor rounded cost : ℤ) (rounds : ℕ) : Type 0 where
  pub diagonal_is : diagonal ≡ diagonal_total n h c
  pub bound_is : bound ≡ float_bound n h c
  pub floor_is : floor ≡ floor_eighths n h c
  pub rounded_is : rounded ≡ rounded_cost n h c rank factor draws draw_count
  pub cost_is : cost ≡ searched_cost n h c rank factor draws draw_count width
  pub rounds_are : rounds ≡ searched_rounds n h c rank factor draws draw_count width
  pub choice_is : b' ≡ over (searched_choice n h c rank factor draws draw_count width) b
  pub multipliers_are : multipliers' ≡ over (multipliers_of n h c rank factor) multipliers

-- ---- the same on a sign table of n + 1 signs

-- the rounded choice's cost; the search's choice, its cost and its rounds
pub record Chooses (t : Table) (n rank width draw_count : ℕ) (draws factor : List Float) (b b' : List ℕ) (rounded cost : ℤ) (rounds : ℕ) : Type 0 where
  pub rounded_is : rounded ≡ objective_in t (rounded_sol factor rank (suc n) draws t draw_count)
  pub cost_is : cost ≡ objective_in t (beam_search t width (rounded_sol factor rank (suc n) draws t draw_count)).answer
  pub rounds_are : rounds ≡ (beam_search t width (rounded_sol factor rank (suc n) draws t draw_count)).rounds
  pub choice_is : b' ≡ over (choice_of n (beam_search t width (rounded_sol factor rank (suc n) draws t draw_count)).answer) b

-- all figures
pub record Works (t : Table) (n rank width draw_count : ℕ) (draws factor : List Float) (b b' : List ℕ) (multipliers multipliers' : List Float)
    (diagonal bound : Float) (floor rounded cost : ℤ) (rounds : ℕ) : Type 0 where
  pub chooses : Chooses t n rank width draw_count draws factor b b' rounded cost rounds
  pub diagonal_is : diagonal ≡ diagonal_sum t (suc n)
  pub bound_is : bound ≡ entrywise t
  pub floor_is : floor ≡ floor_of t
  pub multipliers_are : multipliers' ≡ over (dual_variables t (suc n) rank factor) multipliers
