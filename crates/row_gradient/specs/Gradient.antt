-- The negated gradient of a row without its diagonal (001, `coordinate_sweep`). Definitions only.
use Rattle.std.specs.Prelude.{ℕ, List, eqb, Float}
use Rattle.ieee.specs.Floats.{◌-ᶠ◌}
use Rattle.factor.specs.Columns.{sums_of}

-- the sums over the entries of row `vertex`, one sum per column, from 0.0: every entry subtracted, but nothing on the diagonal
unfoldable pub gradient_of : List ℕ → List Float → List Float → ℕ → ℕ → List Float
gradient_of cols values factor vertex rank = sums_of ◌-ᶠ◌ (λ k. eqb k vertex) cols values factor rank
