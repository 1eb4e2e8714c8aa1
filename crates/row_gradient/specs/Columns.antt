-- The gradient of a row by columns: one sum for each, from 0.0. Definitions only.
use Rattle.std.specs.Prelude.{ℕ, Bool, List, eqb, Float, length}
use Rattle.ieee.specs.Floats.{◌-ᶠ◌}
use Rattle.factor.specs.Columns as Sums

-- what one entry of the row does to a column's sum: nothing on the diagonal
abbrev pub less_entry : Bool → Float → Float → Float → Float
less_entry b weight x sum = Sums.with_entry ◌-ᶠ◌ b weight x sum

-- the sum of column j after the first n entries of row `vertex`
abbrev pub column_to : List ℕ → List Float → List Float → ℕ → ℕ → ℕ → ℕ → Float
column_to cols values factor vertex rank j n = Sums.sum_to_column ◌-ᶠ◌ (λ k. eqb k vertex) cols values factor rank j n

abbrev pub column_of : List ℕ → List Float → List Float → ℕ → ℕ → ℕ → Float
column_of cols values factor vertex rank j = column_to cols values factor vertex rank j (length cols)

-- the sums of `width` columns from `offset` on, after the first n entries
abbrev pub block_to : List ℕ → List Float → List Float → ℕ → ℕ → ℕ → ℕ → ℕ → List Float
block_to cols values factor vertex rank offset width n =
    Sums.block_to ◌-ᶠ◌ (λ k. eqb k vertex) cols values factor rank offset width n
