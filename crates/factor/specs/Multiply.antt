-- The table times the factor: over a row's entries by column, from 0.0 (002, `grad`). Definitions only.
use Rattle.std.specs.Prelude.{ℕ, zero, suc, ◌+◌, List, [], ◌++◌, Float, length, get_or, replicate}
use Rattle.laws.specs.Turns.{up_to}
use Rattle.laws.specs.Rows.{row_of, part}
use Rattle.ieee.specs.Floats.{at, zero64, two64}
use Rattle.factor.specs.Vectors.{add_scaled, multiplied}

-- one entry of a row of the table: its value times the factor's row at its column
abbrev pub product_turn : List ℕ → List Float → List Float → ℕ → ℕ → List Float → List Float
product_turn cols values factor rank e sums = add_scaled (at values e) (row_of rank factor (get_or cols e 0)) sums

-- one row of the table times the factor
unfoldable pub product_row : List ℕ → List Float → List Float → ℕ → List Float
product_row cols values factor rank = up_to (product_turn cols values factor rank) (length cols) (replicate rank zero64)

-- what f makes of row i of the table, whose entries lie from starts[i] up to starts[i + 1]
abbrev pub of_row : (List ℕ → List Float → List Float) → List ℕ → List Float → List ℕ → ℕ → List Float
of_row f cols values starts i =
    f (part (get_or starts i 0) (get_or starts (i + 1) 0) cols) (part (get_or starts i 0) (get_or starts (i + 1) 0) values)

-- row i of the table times the factor
abbrev pub product_at : List ℕ → List Float → List ℕ → List Float → ℕ → ℕ → List Float
product_at cols values starts factor rank i = of_row (λ cs vs. product_row cs vs factor rank) cols values starts i

-- the first m rows of the table times the factor, row after row
unfoldable pub product_of : List ℕ → List Float → List ℕ → List Float → ℕ → ℕ → List Float
product_of cols values starts factor rank zero = []
product_of cols values starts factor rank (suc i) =
    product_of cols values starts factor rank i ++ product_at cols values starts factor rank i

-- the gradient: twice that
unfoldable pub grad_of : List ℕ → List Float → List ℕ → List Float → ℕ → ℕ → List Float
grad_of cols values starts factor rank m = multiplied two64 (product_of cols values starts factor rank m)
