-- The numbers of small calls, and 01's third hall walked, computed.
use Prim.Native.Nat.{ℕ, ◌+◌, ◌^◌}
use mathlib.Core.Path.{◌≡◌, refl}
use mathlib.Core.List.{List, [], ◌∷◌}
use lib.IntN.{ℤ, pos, negsuc}
use Rattle.laws.specs.Sum.{sum, sum₂, total}
use Rattle.laws.specs.Lists.{elem_z, any_below, tabulate}
use Rattle.laws.specs.Refusal.{or_else, first, any_of, short}
use Rattle.tables.specs.Table.{Table, table_of, value_at}
use Rattle.tables.specs.Cost.{cost_eighths}
use Rattle.tables.specs.Check.{before, bad_size, bad_entry, bad_order, unmirrored, hall_number, short_table}
use Rattle.rounding.specs.Rounding.{first_least}
use Rattle.exhaustive.specs.Choices.{digits_of, walk_cost, least_number}
use Rattle.exhaustive.specs.Contract.{walk_short, walk_number}

-- one entry, at (0, 0)
abbrev one : ℕ → ℤ → List ℤ → ℕ → ℕ
one n value c b = walk_number n 1 (0 ∷ []) (0 ∷ []) (value ∷ []) c b

-- 17 wagons want no c and no room; 16 stands before 24, and 13 before both; of 16 wagons both are wanted
pub numbers_are : (one 17 (pos (2 ^ 40)) [] 0 ∷ one 17 (pos (2 ^ 40 + 1)) [] 0 ∷ one 17 (pos (2 ^ 40)) (pos 1 ∷ []) 0 ∷ one 256 (pos 1) [] 0 ∷ one 16 (pos 1) [] 16 ∷ one 1 (pos 1) (pos 1 ∷ []) 0 ∷ one 1 (pos 1) (pos 1 ∷ []) 1 ∷ [])
    ≡ (24 ∷ 16 ∷ 16 ∷ 13 ∷ 31 ∷ 31 ∷ 0 ∷ [])
unfolding walk_number walk_short hall_number short_table bad_size bad_order bad_entry before unmirrored any_below total or_else first any_of short
numbers_are = refl

-- H_01 = H_10 = 3, c = −1, −1: wagon 0 alone is the first of least cost
abbrev third : Table
third = table_of 2 (0 ∷ 1 ∷ []) (1 ∷ 0 ∷ []) (pos 3 ∷ pos 3 ∷ [])

abbrev third_c : ℕ → ℤ
third_c = elem_z (negsuc 0 ∷ negsuc 0 ∷ [])

pub third_hall : (least_number 2 third third_c ≡ 1) × (digits_of 2 (least_number 2 third third_c) ≡ (1 ∷ 0 ∷ [])) × (walk_cost 2 third third_c (least_number 2 third third_c) ≡ negsuc 7)
unfolding least_number walk_cost first_least cost_eighths value_at sum sum₂ tabulate
third_hall = (refl, refl, refl)
