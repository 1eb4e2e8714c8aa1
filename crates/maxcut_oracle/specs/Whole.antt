-- 002's function `dual_variables(Q, V)`, which the call of that name gives: over the whole table, the diagonal in it at its place in its row.
-- The result field `dual_variables` of a run is another value: `dual_variables` (Table.antt) sets the diagonal aside and adds it after.
-- Definitions only.
use Rattle.std.specs.Prelude.{ℕ, cond, List, eqb, ℤ, Float, replicate}
use Rattle.laws.specs.Turns.{up_to}
use Rattle.laws.specs.Rows.{row_of}
use Rattle.laws.specs.Lists.{tabulate}
use Rattle.ieee.specs.Floats.{zero64, eighth_of}
use Rattle.factor.specs.Norms.{dot_of}
use Rattle.factor.specs.Vectors.{add_scaled}
use Rattle.tables.specs.Table.{Table}

-- what row i takes of an entry of row r, column j and v eighths: v / 8 times row j of the factor, added; nothing of another row's entry
unfoldable pub row_takes : ℕ → ℕ → ℕ → ℤ → List Float → ℕ → List Float → List Float
row_takes i r j v factor rank sums = cond (eqb r i) (add_scaled (eighth_of v) (row_of rank factor j) sums) sums

abbrev pub whole_turn : Table → ℕ → List Float → ℕ → ℕ → List Float → List Float
whole_turn t rank factor i e sums = row_takes i (t.row e) (t.column e) (t.value e) factor rank sums

-- `let G = Q * V`: row i of G, over the row's entries in their order (by column), from 0.0; stored zeros are entries too
unfoldable pub whole_row : Table → ℕ → List Float → ℕ → List Float
whole_row t rank factor i = up_to (whole_turn t rank factor i) t.count (replicate rank zero64)

-- `dual[i] = G.row(i).dot(&V.row(i))`: the numerator of equation 8 of arXiv 0807.4423
unfoldable pub numerator : Table → ℕ → List Float → ℕ → Float
numerator t rank factor i = dot_of (whole_row t rank factor i) (row_of rank factor i)

-- of each of m rows, divided by nothing
unfoldable pub whole_multipliers : Table → ℕ → ℕ → List Float → List Float
whole_multipliers t m rank factor = tabulate (numerator t rank factor) m
