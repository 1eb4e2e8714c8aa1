-- The definitions, computed on small tables.
use mathlib.Core.Path.{◌≡◌, refl}
use mathlib.Core.List.{List, [], ◌∷◌}
use Prim.Native.Nat.{ℕ}
use lib.IntN.{pos, negsuc}
use lib.Ieee.{Float, binary64, of_bits}
use Rattle.laws.specs.Sum.{sum}
use Rattle.laws.specs.Lists.{any_below}
use Rattle.laws.specs.Rows.{map_first}
use Rattle.laws.specs.Turns.{up_to}
use Rattle.laws.specs.Refusal.{or_else, first, any_of, short}
use Rattle.tables.specs.Table.{value_at, stored_at}
use Rattle.tables.specs.Stored.{row_places, places, values_of}
use Rattle.tables.specs.Check.{before, bad_entry, bad_order, short_table}
use Rattle.limits.specs.Limits.{most_sign_entries, most_size}
use Rattle.reduced.specs.Indices.{outside, twice, index_refused}
use Rattle.reduced.specs.Lift.{lifted_of, lift_short, lift_number}
use Rattle.reduced.specs.Submatrix.{Slices, slices_of, table_in, reduced_places, value_in, input_number, submatrix_number}

-- four entries of size 3, not symmetric: (0, 0, 2^63 − 1), (0, 2, −2^63), (1, 1, 7), (2, 0, 0)
four : Slices
four = slices_of (0 ∷ 0 ∷ 1 ∷ 2 ∷ []) (0 ∷ 2 ∷ 1 ∷ 0 ∷ []) (pos 9223372036854775807 ∷ negsuc 9223372036854775807 ∷ pos 7 ∷ pos 0 ∷ [])

-- the map 2, 0 permutes and leaves out index 1: the stored zero (2, 0) comes first, at (0, 1)
permuted_places : reduced_places (table_in 4 four) (2 ∷ 0 ∷ []) ≡ ((0, 1) ∷ (1, 0) ∷ (1, 1) ∷ [])
unfolding four reduced_places places row_places stored_at any_below
permuted_places = refl

permuted_values : values_of (value_in (table_in 4 four) (2 ∷ 0 ∷ [])) ((0, 1) ∷ (1, 0) ∷ (1, 1) ∷ []) ≡ (pos 0 ∷ negsuc 9223372036854775807 ∷ pos 9223372036854775807 ∷ [])
unfolding four value_at sum
permuted_values = refl

-- index 2 is not mapped
unmapped_places : reduced_places (table_in 4 four) (0 ∷ 1 ∷ []) ≡ ((0, 0) ∷ (1, 1) ∷ [])
unfolding four reduced_places places row_places stored_at any_below
unmapped_places = refl

-- the numbers of a submatrix, at the limits 3 and 4: nothing refused; a result slice one short; one entry too many, so that no slice is
-- tested; an entry out of range of the size 2, before the map's index 2 twice; the size above its limit; the index 2 twice; a map index and a
-- fixed index not below the size
numbers : List ℕ
numbers =
    submatrix_number 3 4 3 4 four (2 ∷ 0 ∷ []) (1 ∷ []) four
    ∷ submatrix_number 3 4 3 4 four (2 ∷ 0 ∷ []) (1 ∷ []) (slices_of (0 ∷ 0 ∷ 0 ∷ []) (0 ∷ 0 ∷ 0 ∷ 0 ∷ []) (pos 0 ∷ pos 0 ∷ pos 0 ∷ pos 0 ∷ []))
    ∷ submatrix_number 3 4 3 5 four (2 ∷ 0 ∷ []) (1 ∷ []) four
    ∷ submatrix_number 3 4 2 4 four (2 ∷ 2 ∷ []) (1 ∷ []) four
    ∷ submatrix_number 3 4 4 4 four (2 ∷ 0 ∷ []) (1 ∷ []) four
    ∷ submatrix_number 3 4 3 4 four (2 ∷ 2 ∷ []) (1 ∷ []) four
    ∷ submatrix_number 3 4 3 4 four (2 ∷ 3 ∷ []) (1 ∷ []) four
    ∷ submatrix_number 3 4 3 4 four (2 ∷ 0 ∷ []) (3 ∷ []) four
    ∷ []

numbers_are : numbers ≡ (0 ∷ 31 ∷ 13 ∷ 14 ∷ 20 ∷ 20 ∷ 20 ∷ 20 ∷ [])
unfolding numbers four submatrix_number input_number short_table index_refused outside twice bad_order bad_entry before first or_else any_of short any_below
numbers_are = refl

-- at the limits, with empty slices: size 1,024 accepted, 1,025 is 20; 4,863 entries are 13, and 4,862 are asked of the slices
none : Slices
none = slices_of [] [] []

limits : List ℕ
limits =
    submatrix_number most_size most_sign_entries 1024 0 none [] [] none
    ∷ submatrix_number most_size most_sign_entries 1025 0 none [] [] none
    ∷ submatrix_number most_size most_sign_entries 1024 4863 none [] [] none
    ∷ submatrix_number most_size most_sign_entries 1024 4862 none [] [] none
    ∷ []

limits_are : limits ≡ (0 ∷ 20 ∷ 13 ∷ 31 ∷ [])
unfolding limits none submatrix_number input_number short_table index_refused outside twice bad_order bad_entry before first or_else any_of short any_below
limits_are = refl

-- 1.0, 2.0, 3.0, 9.0
one : Float
one = of_bits binary64 0x3FF0000000000000

two : Float
two = of_bits binary64 0x4000000000000000

three : Float
three = of_bits binary64 0x4008000000000000

nine : Float
nine = of_bits binary64 0x4022000000000000

-- size 4, map 2, fixed 0, 2, 0: the later 3.0 over 1.0 at 0, the solution 9.0 over the fixed 2.0 at 2, 0.0 at 1 and 3, the tail kept
lifted : lifted_of 4 (2 ∷ []) (0 ∷ 2 ∷ 0 ∷ []) (one ∷ two ∷ three ∷ []) (nine ∷ []) (nine ∷ nine ∷ nine ∷ nine ∷ two ∷ []) ≡ (three ∷ of_bits binary64 0 ∷ nine ∷ of_bits binary64 0 ∷ two ∷ [])
unfolding lifted_of up_to map_first
lifted = refl

-- the numbers of a lift, at the limit 4: nothing refused; a fixed value, the solution, the lifted slice too short; the size above the limit,
-- so that the lifted slice isn't tested; an index twice in the map; a fixed index not below the size
lift_numbers : List ℕ
lift_numbers =
    lift_number 4 3 (2 ∷ []) (0 ∷ 0 ∷ []) 2 1 3
    ∷ lift_number 4 3 (2 ∷ []) (0 ∷ 0 ∷ []) 1 1 3
    ∷ lift_number 4 3 (2 ∷ []) (0 ∷ 0 ∷ []) 2 0 3
    ∷ lift_number 4 3 (2 ∷ []) (0 ∷ 0 ∷ []) 2 1 2
    ∷ lift_number 4 5 (2 ∷ []) (0 ∷ 0 ∷ []) 2 1 0
    ∷ lift_number 4 3 (2 ∷ 2 ∷ []) (0 ∷ 0 ∷ []) 2 2 3
    ∷ lift_number 4 3 (2 ∷ []) (0 ∷ 3 ∷ []) 2 1 3
    ∷ []

lift_numbers_are : lift_numbers ≡ (0 ∷ 31 ∷ 31 ∷ 31 ∷ 20 ∷ 20 ∷ 20 ∷ [])
unfolding lift_numbers lift_number lift_short index_refused outside twice first or_else any_of short any_below
lift_numbers_are = refl
