-- Equation 8 of arXiv 0807.4423 with its denominator: multiplier i is tr(Vᵀ·Eᵢᵢ·Q·V) / tr(Vᵀ·Eᵢᵢ·Eᵢᵢ·V), Q the whole table, V the factor, Eᵢᵢ all
-- zeros but a 1 at (i, i). So above the line row i of Q·V times row i of V, below it row i of V times itself. Definitions only.
use Rattle.std.specs.Prelude.{ℕ, Bool, true, false, List, Float}
use Rattle.laws.specs.Lists.{tabulate}
use Rattle.laws.specs.Rows.{row_of}
use Rattle.ieee.specs.Floats.{◌/ᶠ◌}
use Rattle.tables.specs.Table.{Table}
use Rattle.factor.specs.Norms.{dot_of}
use Rattle.maxcut_oracle.specs.Whole.{whole_row, numerator}

-- tr(Vᵀ·Eᵢᵢ·Eᵢᵢ·V): row i's product with itself, in one running sum from 0.0
unfoldable pub self_product : ℕ → List Float → ℕ → Float
self_product rank factor i = dot_of (row_of rank factor i) (row_of rank factor i)

-- multiplier i; `numerator` is 002's, over all entries of row i, the diagonal in it
unfoldable pub divided_at : Table → ℕ → List Float → ℕ → Float
divided_at t rank factor i = numerator t rank factor i /ᶠ self_product rank factor i

-- of each of m rows
unfoldable pub divided_multipliers : Table → ℕ → ℕ → List Float → List Float
divided_multipliers t m rank factor = tabulate (divided_at t rank factor) m

-- both calls' multipliers in one: of a row's sums and the row, divided or not
abbrev pub value_of : Bool → List Float → List Float → Float
value_of true sums v = dot_of sums v /ᶠ dot_of v v
value_of false sums v = dot_of sums v

unfoldable pub multipliers_by : Bool → Table → ℕ → ℕ → List Float → List Float
multipliers_by divided t m rank factor = tabulate (λ i. value_of divided (whole_row t rank factor i) (row_of rank factor i)) m
