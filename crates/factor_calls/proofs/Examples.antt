-- `dual_variables` on one sign, 8 eighths at (0, 0) and the factor 2.0: the number 0, and 4.0 (002's function on 1.0 at (0, 0)). Divided, 1.0; a rank of 0 is
-- then 17. Two signs with 8 eighths between them and the rows 1.0 and 1E-200, whose square is too small for a double: divided, 1E-200 and an infinity.
-- Assumes nothing.
use Prim.Native.Nat.{ℕ}
use mathlib.Core.List.{List, [], ◌∷◌, map}
use mathlib.Core.Path.{◌≡◌, refl, ap}
use lib.IntN.{pos}
use lib.Ieee.{Float, binary64, of_bits, to_bits, of_int, add, mul, div}
use Rattle.laws.specs.Lists as Lists
use Rattle.laws.specs.Lists.{over}
use Rattle.laws.specs.Refusal as Refusal
use Rattle.laws.specs.Rows as Rows
use Rattle.laws.specs.Sum as Sum
use Rattle.laws.specs.Turns as Turns
use Rattle.ieee.specs.Floats as Floats
use Rattle.ieee.specs.Floats.{bits_of, zero64, one64, two64}
use Rattle.run_limits.specs.Rank.{rank_meant}
use Rattle.tables.specs.Table.{table_of}
use Rattle.tables.specs.Check as Check
use Rattle.factor.specs.Norms as Norms
use Rattle.factor.specs.Vectors as Vectors
use Rattle.maxcut_oracle.specs.Whole as Whole
use Rattle.maxcut_oracle.specs.Whole.{whole_multipliers}
use Rattle.table_calls.specs.Answer.{answered}
use Rattle.table_calls.specs.Numbers.{bad_signs}
use Rattle.factor_calls.specs.Answers.{Multiplies}
use Rattle.factor_calls.specs.Numbers as Numbers
use Rattle.factor_calls.specs.Numbers.{dual_number, divided_number}
use Rattle.factor_calls.specs.Equation8 as Equation8
use Rattle.factor_calls.specs.Equation8.{divided_multipliers}

pub call_is_four : {answer : ℕ} {out' : List Float}
    → Multiplies (dual_number 1 1 (0 ∷ []) (0 ∷ []) (pos 8 ∷ []) 1 1 1) (whole_multipliers (table_of 1 (0 ∷ []) (0 ∷ []) (pos 8 ∷ [])) 1 (rank_meant 1 1) (two64 ∷ [])) (zero64 ∷ []) answer out'
    → (answer ≡ 0) × (map bits_of out' ≡ 0x4010000000000000 ∷ [])
unfolding of_bits to_bits of_int add mul div Floats.eighth_of Rows.map_first Turns.up_to Sum.total Lists.any_below Lists.tabulate Refusal.or_else Refusal.first Refusal.any_of Refusal.short
    Check.bad_size Check.before Check.bad_entry Check.bad_order Check.unmirrored Check.table_number Check.short_table Norms.dot_to Norms.dot_of Vectors.add_scaled
    Whole.row_takes Whole.whole_row Whole.numerator whole_multipliers rank_meant answered bad_signs Numbers.factor_refused Numbers.factor_short Numbers.dual_short dual_number
call_is_four w = (w.answers, ap (λ (xs : List Float). map bits_of xs) w.multipliers_are)

pub divided_is_one : {answer : ℕ} {out' : List Float}
    → Multiplies (divided_number 1 1 (0 ∷ []) (0 ∷ []) (pos 8 ∷ []) 1 1 1) (divided_multipliers (table_of 1 (0 ∷ []) (0 ∷ []) (pos 8 ∷ [])) 1 1 (two64 ∷ [])) (zero64 ∷ []) answer out'
    → (answer ≡ 0) × (map bits_of out' ≡ 0x3ff0000000000000 ∷ [])
unfolding of_bits to_bits of_int add mul div Floats.eighth_of Rows.map_first Turns.up_to Sum.total Lists.any_below Lists.tabulate Refusal.or_else Refusal.first Refusal.any_of Refusal.short
    Check.bad_size Check.before Check.bad_entry Check.bad_order Check.unmirrored Check.table_number Check.short_table Norms.dot_to Norms.dot_of Vectors.add_scaled
    Whole.row_takes Whole.whole_row Whole.numerator answered bad_signs Numbers.bad_given_rank Numbers.given_factor_short Numbers.divided_short divided_number
    Equation8.self_product Equation8.divided_at divided_multipliers
divided_is_one w = (w.answers, ap (λ (xs : List Float). map bits_of xs) w.multipliers_are)

pub rank_none : divided_number 1 1 (0 ∷ []) (0 ∷ []) (pos 8 ∷ []) 0 0 1 ≡ 17
unfolding Sum.total Lists.any_below Refusal.or_else Refusal.first Refusal.any_of Refusal.short
    Check.bad_size Check.before Check.bad_entry Check.bad_order Check.unmirrored Check.table_number Check.short_table
    bad_signs Numbers.bad_given_rank Numbers.given_factor_short Numbers.divided_short divided_number
rank_none = refl

pub too_small : map bits_of (divided_multipliers (table_of 2 (0 ∷ 1 ∷ []) (1 ∷ 0 ∷ []) (pos 8 ∷ pos 8 ∷ [])) 2 1 (one64 ∷ of_bits binary64 0x16687e92154ef7ac ∷ [])) ≡ 0x16687e92154ef7ac ∷ 0x7ff0000000000000 ∷ []
unfolding of_bits to_bits of_int add mul div Floats.eighth_of Rows.map_first Turns.up_to Lists.tabulate Norms.dot_to Norms.dot_of Vectors.add_scaled
    Whole.row_takes Whole.whole_row Whole.numerator Equation8.self_product Equation8.divided_at divided_multipliers
too_small = refl
