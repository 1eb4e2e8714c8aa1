-- A plain run, computed: the definitions give the numbers, the schedule and the choice. Assumes nothing.
use Prim.Native.Nat.{ℕ}
use mathlib.Core.Bool.{Bool, true, false}
use mathlib.Core.List.{List, [], ◌∷◌, map}
use mathlib.Core.Option.{Option, some, none}
use mathlib.Core.Path.{◌≡◌, refl}
use lib.IntN.{pos, negsuc}
use lib.Ieee.{of_bits, to_bits, of_int, add, sub, mul, div, neg, lt, le, eq}
use Rattle.laws.specs.Sum as Sum
use Rattle.laws.specs.Lists as Lists
use Rattle.laws.specs.Rows as Rows
use Rattle.laws.specs.Turns as Turns
use Rattle.laws.specs.Refusal as Refusal
use Rattle.ieee.specs.Floats as Floats
use Rattle.ieee.specs.Floats.{zero64, one64, half64, bits_of}
use Rattle.ieee.specs.Sqrt as Sqrt
use Rattle.tables.specs.Table as Table
use Rattle.tables.specs.Check as Check
use Rattle.tables.specs.Cost as Cost
use Rattle.tables.specs.Flip as Flip
use Rattle.tables.specs.Bound as Bound
use Rattle.tables.specs.Stored as Stored
use Rattle.sign_table.specs.SignTable as SignTable
use Rattle.factor.specs.Norms as Norms
use Rattle.factor.specs.Vectors as Vectors
use Rattle.factor.specs.Multiply as Multiply
use Rattle.prepared_table.specs.Work as Prepared
use Rattle.maxcut_oracle.specs.Objective as Objective
use Rattle.maxcut_oracle.specs.Check as Checking
use Rattle.maxcut_oracle.specs.Table as Oracle
use Rattle.initialize.specs.Initialize as Initialize
use Rattle.rounding.specs.Rounding as Rounding
use Rattle.local_search.specs.LocalSearch as LocalSearch
use Rattle.local_search.specs.Level as Level
use Rattle.local_search.specs.SignSearch as SignSearch
use Rattle.sign_search.specs.Search as Search
use Rattle.row_gradient.specs.Gradient as Gradient
use Rattle.coordinate_sweep.specs.Sweep as Sweep
use Rattle.step_rules.specs.Steps as Steps
use Rattle.step_rules.specs.Rule as Rule
use Rattle.run_limits.specs.Draws as Draws
use Rattle.run_limits.specs.Rank as Rank
use Rattle.tables.specs.CostTable.{CostTable, cost_table}
use Rattle.run_record.specs.Numbers as Numbers
use Rattle.run_record.specs.Numbers.{is_stopped}
use Rattle.run_sweep.specs.Work as Work
use Rattle.finalize.specs.Finalize as Finalize
use Rattle.run_contract.specs.Calls as Calls
use Rattle.run_contract.specs.Schedule as Schedule
use Rattle.run_contract.specs.Calls.{Settings, settings_of}
use Rattle.run_contract.specs.PlainRun as PlainRun
use Rattle.run_contract.specs.PlainRun.{Call, sweep, finish, plain_open, plain_trace, Given, Seen}

-- n 1, H_00 = 2, c_0 = −3; rank 1, rule 0 with number a half, at most 3 sweeps, the residual from sweep 3 on, start (1), (1)
abbrev hall : CostTable
hall = cost_table 1 1 (0 ∷ []) (0 ∷ []) (pos 2 ∷ []) (negsuc 2 ∷ [])

abbrev settings : Settings
settings = settings_of hall 1 0 half64 3 3 zero64 zero64 0 (one64 ∷ one64 ∷ [])

abbrev sweeping : ℕ → ℕ → Call
sweeping k lent = sweep (record { table = hall; k = k; factor_length = lent })

abbrev finishing : Call
finishing =
    finish (record { table = hall; width = 1; draw_count = 1; draws = one64 ∷ []; factor_length = 2; b_length = 1; dual_length = 2; workspace_length = 1024 })

-- what is looked at, floats as their bits
pub record Shown : Type 0 where
  pub number : ℕ
  pub sweeps : ℕ
  pub stopped : Bool
  pub status : ℕ
  pub standing : ℕ
  pub factor : List ℕ
  pub choice : Option (List ℕ)

abbrev choice_in : Option Given → Option (List ℕ)
choice_in none = none
choice_in (some given) = some given.b

abbrev pub shown : Seen → Shown
shown s =
    record {
      number = s.number;
      sweeps = s.run.sweeps;
      stopped = is_stopped s.run.stage;
      status = s.run.status;
      standing = s.run.standing;
      factor = map bits_of s.factor;
      choice = choice_in s.given;
    }

abbrev look : ℕ → ℕ → Bool → ℕ → ℕ → Option (List ℕ) → Shown
look number sweeps stopped status standing choice =
    record { number = number; sweeps = sweeps; stopped = stopped; status = status; standing = standing; factor = 0x3FF0000000000000 ∷ 0x3FF0000000000000 ∷ []; choice = choice }

-- finish before the stop, two sweeps, a slice too short, two sweeps of which one is left, a sweep after the stop, finish
pub run_computed :
    map shown (plain_trace (plain_open settings) (finishing ∷ sweeping 2 2 ∷ sweeping 2 1 ∷ sweeping 2 2 ∷ sweeping 2 2 ∷ finishing ∷ []))
    ≡ (look 32 0 false 0 0 none ∷ look 0 2 false 0 0 none ∷ look 31 2 false 0 0 none ∷ look 0 3 true 1 0 none ∷ look 32 3 true 1 0 none ∷ look 0 3 true 1 0 (some (1 ∷ [])) ∷ [])
unfolding plain_open PlainRun.swept_factor PlainRun.rows_left PlainRun.swept PlainRun.checked PlainRun.at_most PlainRun.plain_sweeps PlainRun.record_of PlainRun.plain_number PlainRun.plain_after
    PlainRun.finish_of PlainRun.plain_seen Calls.start_factor Calls.finish_result Rank.rank_meant
    Refusal.or_else Refusal.first Refusal.any_of Refusal.short Numbers.table_short Numbers.factor_refused Numbers.factor_short Numbers.record_refused Numbers.sweep_short
    Numbers.sweep_number Draws.bad_draws Numbers.draws_short Numbers.choice_short Numbers.finish_short Numbers.width_refused Numbers.finish_number
    Check.bad_size Check.before Check.bad_entry Check.bad_order Check.unmirrored Check.hall_number Check.short_table Sum.total
    Work.work_of Work.call_work Schedule.is_due Schedule.verdict PlainRun.objective_at PlainRun.look_at Rule.stepped Rule.standing_in Steps.grad_step
    Checking.residual_row Checking.residual_of Checking.frobenius Checking.threshold_of Objective.obj_of Oracle.work_objective Initialize.start_rows
    Vectors.sub_scaled Vectors.multiplied Vectors.projected Multiply.grad_of
    Finalize.floor_eighths Finalize.float_bound Finalize.diagonal_total Finalize.multipliers_of Finalize.rounded_cost Finalize.searched_choice Finalize.searched_cost Finalize.searched_rounds
    Finalize.choice_of Finalize.rounded_signs Finalize.search_result
    of_bits to_bits of_int add sub mul div neg lt le Sqrt.sqrt_of Floats.eighth_of Sum.sum Sum.sum₂ Rows.map_first Turns.up_to
    Lists.any_below Lists.tabulate Lists.kept Table.share Table.least Table.value_at Table.stored_at Flip.flip_change Cost.decoded_byte Bound.bound_term Bound.bound_sum
    Bound.magnitude_sum Bound.margin Bound.entrywise SignTable.absorbed SignTable.sign_value Stored.row_places Stored.places SignTable.sign_kept SignTable.sign_places
    Norms.dot_to Norms.dot_of Norms.sum_to Norms.sum_of Vectors.add_scaled Vectors.added Vectors.divided Vectors.unit Multiply.product_row Multiply.product_of
    Prepared.sets_aside Prepared.prepared_rows Prepared.prepared_cols Prepared.prepared_values Prepared.row_start Prepared.work_starts Prepared.diagonal_of Prepared.diagonal_sum
    Objective.multipliers Oracle.work_product Oracle.dual_variables
    Rounding.draw_signs Rounding.first_least Rounding.rounded_sol Search.objective_in Search.change_in Search.height_in Search.beam_search
    LocalSearch.insert LocalSearch.insert_all LocalSearch.stable_sort LocalSearch.best LocalSearch.concat LocalSearch.children_of LocalSearch.next_level LocalSearch.levels
    LocalSearch.found_in LocalSearch.searched Level.flip_byte Level.flip_sign SignSearch.improving SignSearch.sign_search
run_computed = refl

-- two wagons, the second of which no entry names: H_00 = 2, c_0 = −3; rank 1, rule 3, at most 3 sweeps, start (1), (1), (1). Row 1 stands in every sweep
abbrev lone : CostTable
lone = cost_table 2 1 (0 ∷ []) (0 ∷ []) (pos 2 ∷ []) (negsuc 2 ∷ pos 0 ∷ [])

abbrev sweeping_lone : ℕ → ℕ → Call
sweeping_lone k lent = sweep (record { table = lone; k = k; factor_length = lent })

abbrev told : Seen → ℕ × ℕ × ℕ
told s = (s.number, s.run.sweeps, s.run.standing)

-- none, two sweeps, a slice too short, two of which one is left
pub standing_computed :
    map told (plain_trace (plain_open (settings_of lone 1 3 zero64 3 3 zero64 zero64 0 (one64 ∷ one64 ∷ one64 ∷ []))) (sweeping_lone 0 3 ∷ sweeping_lone 2 3 ∷ sweeping_lone 2 2 ∷ sweeping_lone 2 3 ∷ []))
    ≡ ((0, 0, 0) ∷ (0, 2, 2) ∷ (31, 2, 2) ∷ (0, 3, 3) ∷ [])
unfolding plain_open PlainRun.swept_factor PlainRun.rows_left PlainRun.swept PlainRun.checked PlainRun.at_most PlainRun.plain_sweeps PlainRun.record_of PlainRun.plain_number
    PlainRun.plain_after PlainRun.plain_seen Calls.start_factor Rank.rank_meant
    Refusal.or_else Refusal.first Refusal.any_of Refusal.short Numbers.table_short Numbers.factor_refused Numbers.factor_short Numbers.record_refused Numbers.sweep_short Numbers.sweep_number
    Check.bad_size Check.before Check.bad_entry Check.bad_order Check.unmirrored Check.hall_number Check.short_table Sum.total
    Work.work_of Work.call_work Schedule.is_due Schedule.verdict PlainRun.objective_at PlainRun.look_at Rule.stepped Rule.standing_in
    Sweep.exact_row Sweep.update_row Sweep.gradient_at Sweep.row_to Sweep.row_by Sweep.swept_row Sweep.sweep_to Sweep.standing_to Gradient.gradient_of
    Norms.lane_to Norms.add_squares_to Norms.squared_norm
    Checking.residual_row Checking.residual_of Checking.frobenius Checking.threshold_of Objective.obj_of Oracle.work_objective Initialize.start_rows
    Vectors.sub_scaled Vectors.multiplied Vectors.projected Multiply.grad_of
    of_bits to_bits of_int add sub mul div neg lt le eq Sqrt.sqrt_of Floats.eighth_of Sum.sum Sum.sum₂ Rows.map_first Turns.up_to
    Lists.any_below Lists.tabulate Lists.kept Table.value_at Table.stored_at SignTable.absorbed SignTable.sign_value Stored.row_places Stored.places SignTable.sign_kept SignTable.sign_places
    Norms.dot_to Norms.dot_of Norms.sum_to Norms.sum_of Vectors.add_scaled Vectors.added Vectors.divided Vectors.unit Multiply.product_row Multiply.product_of
    Prepared.sets_aside Prepared.prepared_rows Prepared.prepared_cols Prepared.prepared_values Prepared.row_start Prepared.work_starts Prepared.diagonal_of Prepared.diagonal_sum
    Objective.multipliers Oracle.work_product Oracle.dual_variables
standing_computed = refl
