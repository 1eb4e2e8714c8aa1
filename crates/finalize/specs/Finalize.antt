-- What a finish gives (01, "Rounding and search" and "Run"; 000, `solve_maxcut_sdp_profiled` and `solve_qubo_sdp_subproblem` after the sweeps):
-- n wagons, the table h of the quadratic costs H, the linear costs c, a factor of n + 1 rows of rank numbers, draws of rank numbers each, and the
-- width of the search. Costs are in eighths. Definitions only.
use Rattle.std.specs.Prelude.{ℕ, suc, List, ℤ, Float}
use Rattle.laws.specs.Lists.{tabulate}
use Rattle.tables.specs.Table.{Table, value_at, floor_of}
use Rattle.tables.specs.Cost.{cost_eighths, choice_at, decoded_byte}
use Rattle.tables.specs.Bound.{entrywise}
use Rattle.sign_table.specs.SignTable.{sign_table}
use Rattle.prepared_table.specs.Work.{diagonal_sum}
use Rattle.maxcut_oracle.specs.Table.{dual_variables}
use Rattle.rounding.specs.Rounding.{signs_of, rounded_sol}
use Rattle.local_search.specs.LocalSearch.{Found}
use Rattle.sign_search.specs.Search.{objective_in, beam_search}

-- the choice that n + 1 signs decode to, a byte for each wagon: 1 exactly where its sign differs from the anchor's
unfoldable pub choice_of : ℕ → List ℕ → List ℕ
choice_of n signs = tabulate (decoded_byte n signs) n

-- the rounded choice of draw k
unfoldable pub drawn_choice : ℕ → ℕ → List Float → List Float → ℕ → List ℕ
drawn_choice n rank factor draws k = choice_of n (signs_of factor rank (suc n) draws k)

module _ (n : ℕ) (h : Table) (c : ℕ → ℤ) where
  -- the cost of a choice, in which every byte but 0 is 1: half the sum of H_ij·b_i·b_j, plus the sum of c_i·b_i
  abbrev pub cost_of : List ℕ → ℤ
  cost_of b = cost_eighths n (value_at h) c (choice_at b)

  -- the floor, and the same in doubles less its margin
  unfoldable pub floor_eighths : ℤ
  floor_eighths = floor_of (sign_table n h c)

  unfoldable pub float_bound : Float
  float_bound = entrywise (sign_table n h c)

  -- the sum of the sign table's diagonal, which the sweeps set aside: the relaxed objective is the record's last objective plus this
  unfoldable pub diagonal_total : Float
  diagonal_total = diagonal_sum (sign_table n h c) (suc n)

  module _ (rank : ℕ) (factor : List Float) where
    -- the result field `dual_variables`: the multipliers over the table with its diagonal set aside, then the diagonal added
    unfoldable pub multipliers_of : List Float
    multipliers_of = dual_variables (sign_table n h c) (suc n) rank factor

    module _ (draws : List Float) (draw_count : ℕ) where
      -- the rounded choice: the signs of the first draw of least objective, what they decode to, and what that costs
      unfoldable pub rounded_signs : List ℕ
      rounded_signs = rounded_sol factor rank (suc n) draws (sign_table n h c) draw_count

      unfoldable pub rounded_choice : List ℕ
      rounded_choice = choice_of n rounded_signs

      unfoldable pub rounded_cost : ℤ
      rounded_cost = objective_in (sign_table n h c) rounded_signs

      module _ (width : ℕ) where
        -- the search from the rounded choice; with width 0 that stands, rounds 0. Its answer, what that costs, and the rounds
        unfoldable pub search_result : Found (List ℕ)
        search_result = beam_search (sign_table n h c) width rounded_signs

        unfoldable pub searched_choice : List ℕ
        searched_choice = choice_of n search_result.answer

        unfoldable pub searched_cost : ℤ
        searched_cost = objective_in (sign_table n h c) search_result.answer

        unfoldable pub searched_rounds : ℕ
        searched_rounds = search_result.rounds
