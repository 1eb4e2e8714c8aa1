-- 01's halls worked by hand, finished: the definitions compute its figures. Assumes nothing.
use Prim.Native.Nat.{ℕ}
use mathlib.Core.List.{List, [], ◌∷◌, map}
use mathlib.Core.Path.{◌≡◌, refl}
use lib.IntN.{ℤ, pos, negsuc}
use lib.Ieee.{Float, of_bits, to_bits, of_int, add, sub, mul, div, neg, lt}
use Rattle.laws.specs.Sum as Sum
use Rattle.laws.specs.Lists as Lists
use Rattle.laws.specs.Lists.{elem_z}
use Rattle.laws.specs.Rows as Rows
use Rattle.laws.specs.Turns as Turns
use Rattle.ieee.specs.Floats as Floats
use Rattle.ieee.specs.Floats.{zero64, one64, bits_of}
use Rattle.ieee.specs.Sqrt as Sqrt
use Rattle.tables.specs.Table as Table
use Rattle.tables.specs.Table.{Table, table_of}
use Rattle.tables.specs.Cost as Cost
use Rattle.tables.specs.Flip as Flip
use Rattle.tables.specs.Bound as Bound
use Rattle.tables.specs.Stored as Stored
use Rattle.sign_table.specs.SignTable as SignTable
use Rattle.factor.specs.Norms as Norms
use Rattle.factor.specs.Vectors as Vectors
use Rattle.factor.specs.Multiply as Multiply
use Rattle.prepared_table.specs.Work as Work
use Rattle.maxcut_oracle.specs.Objective as Objective
use Rattle.maxcut_oracle.specs.Table as Oracle
use Rattle.rounding.specs.Rounding as Rounding
use Rattle.local_search.specs.LocalSearch as LocalSearch
use Rattle.local_search.specs.Level as Level
use Rattle.local_search.specs.SignSearch as SignSearch
use Rattle.sign_search.specs.Search as Search
use Rattle.finalize.specs.Finalize as Finalize
use Rattle.finalize.specs.Finalize.{floor_eighths, float_bound, diagonal_total, multipliers_of, rounded_cost, searched_choice, searched_cost, searched_rounds}

-- what a finish gives, its floats as their bits
pub record Answer : Type 0 where
  pub bound : ℕ
  pub diagonal : ℕ
  pub floor : ℤ
  pub rounded : ℤ
  pub cost : ℤ
  pub rounds : ℕ
  pub choice : List ℕ
  pub multipliers : List ℕ

abbrev pub finished : ℕ → Table → List ℤ → ℕ → List Float → List Float → ℕ → ℕ → Answer
finished n h c rank factor draws draw_count width =
    record {
      bound = bits_of (float_bound n h (elem_z c));
      diagonal = bits_of (diagonal_total n h (elem_z c));
      floor = floor_eighths n h (elem_z c);
      rounded = rounded_cost n h (elem_z c) rank factor draws draw_count;
      cost = searched_cost n h (elem_z c) rank factor draws draw_count width;
      rounds = searched_rounds n h (elem_z c) rank factor draws draw_count width;
      choice = searched_choice n h (elem_z c) rank factor draws draw_count width;
      multipliers = map bits_of (multipliers_of n h (elem_z c) rank factor);
    }

-- n 1, H_00 = 2, c_0 = −3, rank 2, rows (1, 0) and (1, 0), one draw (1, 0), width 1; n 0, rank 1, row (1), one draw (1);
-- H_01 = H_10 = 3, c = −1, −1, rank 1, rows (1), (1), (1), one draw (1)
pub halls :
    (finished 1 (table_of 1 (0 ∷ []) (0 ∷ []) (pos 2 ∷ [])) (negsuc 2 ∷ []) 2 (one64 ∷ zero64 ∷ one64 ∷ zero64 ∷ []) (one64 ∷ zero64 ∷ []) 1 1
    ∷ finished 0 (table_of 0 [] [] []) [] 1 (one64 ∷ []) (one64 ∷ []) 1 1
    ∷ finished 2 (table_of 2 (0 ∷ 1 ∷ []) (1 ∷ 0 ∷ []) (pos 3 ∷ pos 3 ∷ [])) (negsuc 0 ∷ negsuc 0 ∷ []) 1 (one64 ∷ one64 ∷ one64 ∷ []) (one64 ∷ []) 1 1
    ∷ [])
    ≡ (record { bound = 0xC000000000000028; diagonal = 0xBFF0000000000000; floor = negsuc 15; rounded = pos 0; cost = negsuc 15; rounds = 1; choice = 1 ∷ []; multipliers = 0 ∷ 0 ∷ [] }
    ∷ record { bound = 0; diagonal = 0; floor = pos 0; rounded = pos 0; cost = pos 0; rounds = 0; choice = []; multipliers = 0 ∷ [] }
    ∷ record { bound = 0xBFF80000000000A0; diagonal = 0xBFD0000000000000; floor = negsuc 11; rounded = pos 0; cost = negsuc 7; rounds = 1; choice = 1 ∷ 0 ∷ []; multipliers = 0 ∷ 0 ∷ 0 ∷ [] }
    ∷ [])
unfolding floor_eighths float_bound diagonal_total multipliers_of rounded_cost searched_choice searched_cost searched_rounds
    Finalize.choice_of Finalize.rounded_signs Finalize.search_result
    of_bits to_bits of_int add sub mul div neg lt Sqrt.sqrt_of Floats.eighth_of Sum.sum Sum.sum₂ Rows.map_first Turns.up_to
    Lists.any_below Lists.tabulate Lists.kept Table.share Table.least Table.value_at Table.stored_at Flip.flip_change Cost.decoded_byte Bound.bound_term Bound.bound_sum
    Bound.magnitude_sum Bound.margin Bound.entrywise SignTable.absorbed SignTable.sign_value Stored.row_places Stored.places SignTable.sign_kept SignTable.sign_places
    Norms.dot_to Norms.dot_of Norms.sum_to Norms.sum_of Vectors.add_scaled Vectors.added Vectors.divided Vectors.unit Multiply.product_row Multiply.product_of
    Work.sets_aside Work.prepared_rows Work.prepared_cols Work.prepared_values Work.row_start Work.work_starts Work.diagonal_of Work.diagonal_sum Objective.multipliers Oracle.work_product Oracle.dual_variables
    Rounding.draw_signs Rounding.first_least Rounding.rounded_sol Search.objective_in Search.change_in Search.height_in Search.beam_search
    LocalSearch.insert LocalSearch.insert_all LocalSearch.stable_sort LocalSearch.best LocalSearch.concat LocalSearch.children_of LocalSearch.next_level LocalSearch.levels
    LocalSearch.found_in LocalSearch.searched Level.flip_byte Level.flip_sign SignSearch.improving SignSearch.sign_search
halls = refl
