-- One call that Note 14 speaks of, computed: three rows, of which the sweep rewrites two. So the claim is about something. Assumes nothing.
use Prim.Native.Nat.{ℕ, zero, suc, ◌%◌, ◌^◌, ◌≤◌, ◌<◌}
use mathlib.Core.Bool.{Bool, true, false}
use mathlib.Core.List.{List, [], ◌∷◌, map}
use mathlib.Core.Path.{◌≡◌, refl, ap}
use native.Mathlib.Omega.{arith}
use lib.Dec.{lit≤, lit<}
use lib.IntN.{pos, negsuc}
use lib.Ieee.{Float, of_bits, to_bits, of_int, add, sub, mul, div, neg, lt, le, eq}
use Rattle.laws.specs.Sum as Sum
use Rattle.laws.specs.Lists as Lists
use Rattle.laws.specs.Lists.{elem}
use Rattle.laws.specs.Rows as Rows
use Rattle.laws.specs.Rows.{row_of}
use Rattle.laws.specs.Turns as Turns
use Rattle.laws.specs.Refusal as Refusal
use Rattle.ieee.specs.Floats as Floats
use Rattle.ieee.specs.Floats.{zero64, one64, double_of}
use Rattle.ieee.specs.Sqrt as Sqrt
use Rattle.tables.specs.Table as Table
use Rattle.tables.specs.Check as Check
use Rattle.tables.specs.Stored as Stored
use Rattle.sign_table.specs.SignTable as SignTable
use Rattle.factor.specs.Norms as Norms
use Rattle.factor.specs.Vectors as Vectors
use Rattle.prepared_table.specs.Work as Prepared
use Rattle.row_gradient.specs.Gradient as Gradient
use Rattle.coordinate_sweep.specs.Sweep as Sweep
use Rattle.step_rules.specs.declared.StepRule.TheVariants.{CoordNoStep}
use Rattle.row_length.specs.Length as Length
use Rattle.row_length.specs.Length.{squared_length, UnitLength, one}
use Rattle.row_length.proofs.AtMostTwo.{two_bits}
use Rattle.run_record.specs.declared.Run.{Run}
use Rattle.run_record.specs.declared.Stage.TheVariants.{Open}
use Rattle.tables.specs.CostTable.{CostTable, cost_table}
use Rattle.run_record.specs.Numbers as Numbers
use Rattle.run_record.specs.Numbers.{sweep_number}
use Rattle.run_sweep.specs.Work as Work
use Rattle.unit_rows.specs.UnitRows.{Tame, rewritten, OneSweep}
use Rattle.unit_rows.proofs.OfCall.{how_long_a_row_is}
use Rattle.unit_rows.proofs.Starts.{tame_of_bits, one_sweep_any}

-- two wagons, the second of which no entry names: H_00 = 2, c_0 = −3; rank 2, rule 3, rows (1/2, −2), (1, 1), (2, 1/4)
abbrev lone : CostTable
lone = cost_table 2 1 (0 ∷ []) (0 ∷ []) (pos 2 ∷ []) (negsuc 2 ∷ pos 0 ∷ [])

abbrev started : Run
started =
    record {
      size = 3;
      rank = 2;
      rule = CoordNoStep;
      sweeps = 0;
      last_objective = zero64;
      objective_tolerance = zero64;
      stationarity_tolerance = zero64;
      most = 3;
      minimum = 3;
      stage = Open;
      status = 0;
      standing = 0;
    }

abbrev patterns : List ℕ
patterns = 0x3FE0000000000000 ∷ 0xC000000000000000 ∷ 0x3FF0000000000000 ∷ 0x3FF0000000000000 ∷ 0x4000000000000000 ∷ 0x3FD0000000000000 ∷ []

abbrev rows : List Float
rows = map double_of patterns

pub no_number : sweep_number started lone 6 ≡ 0
unfolding Refusal.or_else Refusal.first Refusal.any_of Refusal.short Numbers.table_short Numbers.factor_refused Numbers.factor_short Numbers.record_refused Numbers.sweep_short Numbers.sweep_number
    Check.bad_size Check.before Check.bad_entry Check.bad_order Check.unmirrored Check.hall_number Check.short_table Sum.total Lists.any_below Table.value_at Table.stored_at of_bits lt le eq
no_number = refl

pub which_rows : map (rewritten started lone rows) (0 ∷ 1 ∷ 2 ∷ []) ≡ (true ∷ false ∷ true ∷ [])
unfolding Length.rewrites Work.work_of Work.call_work
    Sweep.exact_row Sweep.update_row Sweep.gradient_at Sweep.row_to Sweep.row_by Sweep.swept_row Sweep.sweep_to Gradient.gradient_of
    Norms.lane_to Norms.add_squares_to Norms.squared_norm Norms.dot_to Norms.dot_of Norms.sum_to Norms.sum_of
    of_bits to_bits of_int add sub mul div neg lt le eq Sqrt.sqrt_of Floats.eighth_of Sum.sum Sum.sum₂ Rows.map_first Turns.up_to
    Lists.any_below Lists.tabulate Lists.kept Table.value_at Table.stored_at SignTable.absorbed SignTable.sign_value Stored.row_places Stored.places SignTable.sign_kept SignTable.sign_places
    Prepared.sets_aside Prepared.prepared_rows Prepared.prepared_cols Prepared.prepared_values Prepared.row_start Prepared.work_starts Vectors.sub_scaled
which_rows = refl

low : (k : ℕ) → k < 6 → (elem patterns k < 2 ^ 64) × (elem patterns k % 2 ^ 63 ≤ two_bits)
low zero l = (lit< tt, lit≤ tt)
low (suc zero) l = (lit< tt, lit≤ tt)
low (suc (suc zero)) l = (lit< tt, lit≤ tt)
low (suc (suc (suc zero))) l = (lit< tt, lit≤ tt)
low (suc (suc (suc (suc zero)))) l = (lit< tt, lit≤ tt)
low (suc (suc (suc (suc (suc zero))))) l = (lit< tt, lit≤ tt)
low (suc (suc (suc (suc (suc (suc k)))))) l = absurd (omega arith)

pub tame : Tame started rows
tame = tame_of_bits started patterns (lit≤ tt) low

-- the first row after the call
abbrev head_of : List Bool → Bool
head_of [] = false
head_of (b ∷ bs) = b

first_new : rewritten started lone rows 0 ≡ true
first_new = ap head_of which_rows

pub a_row : (run' : Run) × (factor' : List Float) × OneSweep started lone rows 0 run' factor' × UnitLength (row_of 2 factor' 0)
a_row =
    let (run', factor', made) = one_sweep_any started lone rows no_number refl tame in
    (run', factor', made, (how_long_a_row_is started lone rows 0 run' factor' made).rewritten_rows 0 (lit< tt) first_new)

-- a length, computed from bits: (1.0) has the squared length 1
pub length_computed : squared_length (one64 ∷ []) ≡ one
unfolding squared_length Sum.total to_bits of_bits
length_computed = refl
