-- The sums over a row of the table by columns: one for each, from 0.0. Definitions only.
use Rattle.std.specs.Prelude.{ℕ, zero, suc, ◌+◌, ◌*◌, Bool, true, false, List, ◌++◌, Float, length, get_or, take, drop, replicate}
use Rattle.laws.specs.Rows.{map_first, row_of}
use Rattle.laws.specs.Turns.{up_to}
use Rattle.laws.specs.Lists.{tabulate}
use Rattle.ieee.specs.Floats.{◌+ᶠ◌, ◌*ᶠ◌, at, zero64}

-- what one entry of the row does to a column's sum, which it joins by `op`: nothing where it is left out
abbrev pub with_entry : (Float → Float → Float) → Bool → Float → Float → Float → Float
with_entry op true weight x sum = sum
with_entry op false weight x sum = op sum (weight *ᶠ x)

-- the sum of column j after the first n entries of a row, of which those at the columns of `out` are left out
unfoldable pub sum_to_column : (Float → Float → Float) → (ℕ → Bool) → List ℕ → List Float → List Float → ℕ → ℕ → ℕ → Float
sum_to_column op out cols values factor rank j zero = zero64
sum_to_column op out cols values factor rank j (suc n) =
    with_entry op (out (get_or cols n 0)) (at values n) (at factor (get_or cols n 0 * rank + j))
    (sum_to_column op out cols values factor rank j n)

abbrev pub sum_of_column : (Float → Float → Float) → (ℕ → Bool) → List ℕ → List Float → List Float → ℕ → ℕ → Float
sum_of_column op out cols values factor rank j = sum_to_column op out cols values factor rank j (length cols)

-- the sums of `width` columns from `offset` on, after the first n entries
abbrev pub block_to : (Float → Float → Float) → (ℕ → Bool) → List ℕ → List Float → List Float → ℕ → ℕ → ℕ → ℕ → List Float
block_to op out cols values factor rank offset width n =
    tabulate (λ j. sum_to_column op out cols values factor rank (offset + j) n) width

-- what one entry of the row does to the sums of `width` columns
abbrev pub block_entry : (Float → Float → Float) → Bool → ℕ → Float → List Float → List Float → List Float
block_entry op true width weight source sums = sums
block_entry op false width weight source sums = map_first (λ j x. op x (weight *ᶠ at source j)) width sums

-- all the sums of a row, one for each column: what an entry does to them, and from 0.0 over the entries in their order
abbrev pub sums_turn : (Float → Float → Float) → (ℕ → Bool) → List ℕ → List Float → List Float → ℕ → ℕ → List Float → List Float
sums_turn op out cols values factor rank e sums =
    block_entry op (out (get_or cols e 0)) rank (at values e) (row_of rank factor (get_or cols e 0)) sums

abbrev pub sums_of : (Float → Float → Float) → (ℕ → Bool) → List ℕ → List Float → List Float → ℕ → List Float
sums_of op out cols values factor rank = up_to (sums_turn op out cols values factor rank) (length cols) (replicate rank zero64)

-- g with a block of columns written from `offset` on
abbrev pub put_block : ℕ → ℕ → List Float → List Float → List Float
put_block width offset block g = take offset g ++ (block ++ drop width (drop offset g))

-- the table times the factor: every entry, added
abbrev pub column_to : List ℕ → List Float → List Float → ℕ → ℕ → ℕ → Float
column_to cols values factor rank j n = sum_to_column ◌+ᶠ◌ (λ k. false) cols values factor rank j n

abbrev pub column_of : List ℕ → List Float → List Float → ℕ → ℕ → Float
column_of cols values factor rank j = column_to cols values factor rank j (length cols)
