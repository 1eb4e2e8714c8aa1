-- The lines that 01 marks ◆ under "Halls worked by hand", computed together as one list. Assumes nothing.
--     worked_pins    02's pins: some, all, none, and no wagons
--     worked    the example's answer; n 0: one stored zero, cost, floor and rounds 0; the hall of choice 1,0; ranks; roots
use Prim.Native.Nat.{ℕ}
use mathlib.Core.List.{List, [], ◌∷◌, ◌++◌, map}
use mathlib.Core.Path.{◌≡◌, refl}
use lib.IntN.{nat_abs}
use lib.ListN.{replicate}
use lib.Ieee.{of_bits, to_bits, of_int, of_fields, odd, climb, size, span, add, sub, mul, div, neg, lt, le}
use Rattle.laws.specs.Sum as Sum
use Rattle.laws.specs.Lists as Lists
use Rattle.laws.specs.Rows as Rows
use Rattle.laws.specs.Turns as Turns
use Rattle.laws.specs.Refusal as Refusal
use Rattle.ieee.specs.Floats as Floats
use Rattle.ieee.specs.Floats.{double_of, bits_of}
use Rattle.ieee.specs.Sqrt as Sqrt
use Rattle.ieee.specs.Sqrt.{sqrt_of}
use Rattle.tables.specs.Table as Table
use Rattle.tables.specs.Check as Check
use Rattle.tables.specs.Cost as Cost
use Rattle.tables.specs.Flip as Flip
use Rattle.tables.specs.Bound as Bound
use Rattle.tables.specs.Stored as Stored
use Rattle.tables.specs.Rank as Rank
use Rattle.tables.specs.Rank.{default_rank}
use Rattle.reduced.specs.Submatrix as Submatrix
use Rattle.pinned.specs.Pinned as Pinned
use Rattle.run_limits.specs.Rank as Meant
use Rattle.run_limits.specs.Start as Start
use Rattle.sign_table.specs.SignTable as SignTable
use Rattle.factor.specs.Norms as Norms
use Rattle.factor.specs.Vectors as Vectors
use Rattle.factor.specs.Multiply as Multiply
use Rattle.prepared_table.specs.Work as Prepared
use Rattle.maxcut_oracle.specs.Objective as Objective
use Rattle.maxcut_oracle.specs.Table as Oracle
use Rattle.initialize.specs.Initialize as Initialize
use Rattle.rounding.specs.Rounding as Rounding
use Rattle.local_search.specs.LocalSearch as LocalSearch
use Rattle.local_search.specs.Level as Level
use Rattle.local_search.specs.SignSearch as SignSearch
use Rattle.sign_search.specs.Search as Search
use Rattle.run_sweep.specs.Work.{sign_table_of}
use Rattle.finalize.specs.Finalize as Finalize
use Rattle.run_contract.specs.Calls as Calls
use Rattle.run_contract.specs.PlainRun as PlainRun
use Rattle.job_reader.specs.Bytes as Bytes
use Rattle.job_reader.specs.Encode as Encode
use Rattle.job_record.specs.Versions as Versions
use Rattle.job_record.specs.Fields as Fields
use Rattle.job_record.specs.Number as Number
use Rattle.job_record.specs.Values as Values
use Rattle.job_record.proofs.Examples.{example, pinned, all_pinned, none_pinned, no_wagons}
use Rattle.answer_record.specs.Answer as Answer
use Rattle.record_call.specs.Record as Record
use Rattle.record_call.specs.Record.{job_costs, answer_of}

-- 1.0, and settings that all three jobs share: rule 3 (number 0), sweeps 0 and 0, tolerances 0, W 1, a start of signs
abbrev one : List ℕ
one = 0x3f ∷ 0xf0 ∷ replicate 6 0

abbrev settings : ℕ → List ℕ
settings rank = (rank ∷ 3 ∷ []) ++ replicate 32 0 ++ (1 ∷ 2 ∷ [])

-- n 0: start sign 1.0, one draw 1.0
unfoldable pub empty : List ℕ
empty = (0 ∷ 0 ∷ 0 ∷ 58 ∷ 1 ∷ 0 ∷ 0 ∷ 0 ∷ []) ++ settings 0 ++ one ++ (0 ∷ 1 ∷ []) ++ one

-- n 2, H_01 = H_10 = 3, c = −1, −1; rank 1, start +++, one draw 1.0
unfoldable pub third : List ℕ
third =
    (0 ∷ 0 ∷ 0 ∷ 110 ∷ 1 ∷ 2 ∷ 0 ∷ 2 ∷ []) ++ (0 ∷ 1 ∷ replicate 7 0) ++ (3 ∷ 1 ∷ 0 ∷ replicate 7 0) ++ (3 ∷ replicate 16 255)
    ++ settings 1 ++ one ++ one ++ one ++ (0 ∷ 1 ∷ []) ++ one

-- the entries of the sign table, their values as magnitudes
abbrev stored : List ℕ → List ℕ
stored s = Lists.tabulate (λ k. nat_abs ((sign_table_of (job_costs s)).value k)) (sign_table_of (job_costs s)).count

-- eighths below 0
abbrev below : ℕ → List ℕ
below k = replicate 7 255 ++ (k ∷ [])

abbrev rounds : ℕ → List ℕ
rounds k = replicate 7 0 ++ (k ∷ [])

abbrev pub Worked : Type 0
Worked =
    ((answer_of example).bytes
    ∷ (answer_of empty).bytes
    ∷ stored empty
    ∷ (answer_of third).bytes
    ∷ map default_rank (1 ∷ 2 ∷ 3 ∷ 8 ∷ 9 ∷ 128 ∷ [])
    ∷ map (λ b. bits_of (sqrt_of (double_of b))) (0x4000000000000000 ∷ 1 ∷ [])
    ∷ [])
    -- 00000039 01 00 02 01 00000000 0000000000000000 C000000000000028 FFFFFFFFFFFFFFF0 0000000000000000 FFFFFFFFFFFFFFF0 0000000000000001 01
    ≡ (((0 ∷ 0 ∷ 0 ∷ 0x39 ∷ 1 ∷ 0 ∷ 2 ∷ 1 ∷ replicate 12 0) ++ (0xC0 ∷ 0 ∷ 0 ∷ 0 ∷ 0 ∷ 0 ∷ 0 ∷ 0x28 ∷ []) ++ below 0xF0 ++ replicate 8 0 ++ below 0xF0 ++ rounds 1 ++ (1 ∷ []))
    -- rank 1, n 0; all figures 0
    ∷ (0 ∷ 0 ∷ 0 ∷ 0x38 ∷ 1 ∷ 0 ∷ 1 ∷ replicate 53 0)
    ∷ (0 ∷ [])
    -- floor −12, rounded cost 0, cost −8, 1 round, choice 1,0
    ∷ ((0 ∷ 0 ∷ 0 ∷ 0x3A ∷ 1 ∷ 0 ∷ 1 ∷ 2 ∷ replicate 12 0) ++ (0xBF ∷ 0xF8 ∷ 0 ∷ 0 ∷ 0 ∷ 0 ∷ 0 ∷ 0xA0 ∷ []) ++ below 0xF4 ++ replicate 8 0 ++ below 0xF8 ++ rounds 1 ++ (1 ∷ 0 ∷ []))
    ∷ (1 ∷ 2 ∷ 3 ∷ 5 ∷ 6 ∷ 17 ∷ [])
    -- of 2, and of 2^-1074
    ∷ (0x3FF6A09E667F3BCD ∷ 0x1E60000000000000 ∷ [])
    ∷ [])

-- 02, Note 1: the hall of choice 1,0 with wagon 0 pinned to 0; with wagon 0 pinned to 0 and wagon 1 to 1; in version 2 without a pin; and no wagons
-- in version 2
abbrev pub WorkedPins : Type 0
WorkedPins =
    ((answer_of pinned).bytes
    ∷ (answer_of all_pinned).bytes
    ∷ (answer_of none_pinned).bytes
    ∷ (answer_of no_wagons).bytes
    ∷ [])
    -- 0000003A 01 00 02 02 00000000 0000000000000000 BFF0000000000028 FFFFFFFFFFFFFFF8 0000000000000000 FFFFFFFFFFFFFFF8 0000000000000001 00 01
    ≡ (((0 ∷ 0 ∷ 0 ∷ 0x3A ∷ 1 ∷ 0 ∷ 2 ∷ 2 ∷ replicate 12 0) ++ (0xBF ∷ 0xF0 ∷ 0 ∷ 0 ∷ 0 ∷ 0 ∷ 0 ∷ 0x28 ∷ []) ++ below 0xF8 ++ replicate 8 0 ++ below 0xF8 ++ rounds 1 ++ (0 ∷ 1 ∷ []))
    -- rank 1; floor, rounded cost and cost are the constant, −8; choice 0,1
    ∷ ((0 ∷ 0 ∷ 0 ∷ 0x3A ∷ 1 ∷ 0 ∷ 1 ∷ 2 ∷ replicate 20 0) ++ below 0xF8 ++ below 0xF8 ++ below 0xF8 ++ rounds 0 ++ (0 ∷ 1 ∷ []))
    -- as in version 1, by rank 3
    ∷ ((0 ∷ 0 ∷ 0 ∷ 0x3A ∷ 1 ∷ 0 ∷ 3 ∷ 2 ∷ replicate 12 0) ++ (0xBF ∷ 0xF8 ∷ 0 ∷ 0 ∷ 0 ∷ 0 ∷ 0 ∷ 0xA0 ∷ []) ++ below 0xF4 ++ replicate 8 0 ++ below 0xF8 ++ rounds 1 ++ (1 ∷ 0 ∷ []))
    ∷ (0 ∷ 0 ∷ 0 ∷ 0x38 ∷ 1 ∷ 0 ∷ 1 ∷ replicate 53 0)
    ∷ [])

-- computed at once, since the computation opens the same definitions
computed : Worked × WorkedPins
unfolding example empty third pinned all_pinned none_pinned no_wagons
    Record.job_costs Record.reduced_costs Record.run_costs Record.pinned_cost Record.job_fields Record.whole_choice Record.job_settings Record.job_draws Record.opened Record.stopped Record.job_result Record.job_choice Record.answer_of
    Pinned.free_of Pinned.held_byte Pinned.beside_held Pinned.free_costs Pinned.held_cost Pinned.lifted Submatrix.reduced_places
    Bytes.big_endian Encode.bytes_of Answer.frame_bytes Answer.count_bytes Answer.float_bytes Answer.eighth_bytes Answer.answer_bytes
    Number.number_by Number.head_numbers Number.entries_numbers Number.costs_numbers Number.run_numbers Number.settings_numbers Number.draws_numbers Number.frame_number Number.version_number
    Number.bounded_number Number.entry_number Number.momentum_number Meant.rank_meant Start.start_length Versions.versions Fields.pin_count_by Fields.free_by Fields.settings_by Number.pins_numbers_by Number.pins_numbers Number.pin_number Number.pinned_before Values.draws_by Values.states_of Values.job_states Values.job_by
    Refusal.or_else Refusal.first Refusal.first_of Refusal.any_of Check.before Check.bad_entry Check.unmirrored Sum.total Rank.root_from Rank.least_root Rank.default_rank
    Calls.start_factor Calls.finish_result PlainRun.plain_open PlainRun.plain_sweeps PlainRun.record_of
    Initialize.with_signs Initialize.start_signs Objective.obj_of Oracle.work_objective Vectors.multiplied Vectors.projected
    Finalize.floor_eighths Finalize.float_bound Finalize.diagonal_total Finalize.rounded_cost Finalize.searched_choice Finalize.searched_cost Finalize.searched_rounds
    Finalize.choice_of Finalize.rounded_signs Finalize.search_result
    of_bits to_bits of_int of_fields odd climb size span add sub mul div neg lt le Sqrt.sqrt_of Floats.eighth_of Sum.sum Sum.sum₂ Rows.map_first Turns.up_to
    Lists.any_below Lists.tabulate Lists.kept Table.share Table.least Table.value_at Table.stored_at Flip.flip_change Cost.cost_eighths Cost.decoded_byte Bound.bound_term Bound.bound_sum
    Bound.magnitude_sum Bound.margin Bound.entrywise SignTable.absorbed SignTable.sign_value Stored.row_places Stored.places SignTable.sign_kept SignTable.sign_places
    Norms.dot_to Norms.dot_of Norms.sum_to Norms.sum_of Vectors.add_scaled Vectors.added Vectors.divided Vectors.unit Multiply.product_row Multiply.product_of
    Prepared.sets_aside Prepared.prepared_rows Prepared.prepared_cols Prepared.prepared_values Prepared.row_start Prepared.work_starts Prepared.diagonal_of Prepared.diagonal_sum
    Rounding.draw_signs Rounding.first_least Rounding.rounded_sol Search.objective_in Search.change_in Search.height_in Search.beam_search
    LocalSearch.insert LocalSearch.insert_all LocalSearch.stable_sort LocalSearch.best LocalSearch.concat LocalSearch.children_of LocalSearch.next_level LocalSearch.levels
    LocalSearch.found_in LocalSearch.searched Level.flip_byte Level.flip_sign SignSearch.improving SignSearch.sign_search
computed = (refl, refl)

pub worked : Worked
worked = computed.0

pub worked_pins : WorkedPins
worked_pins = computed.1
