-- The rounding of draws (01, "Rounding and search"; 002, `compute_rounded_sol`). Definitions only.
use Rattle.std.specs.Prelude.{ℕ, zero, suc, ◌-◌, Bool, true, false, cond, List, [], ◌++◌, Float, ℤ}
use Rattle.std.specs.Float.Ieee
use Rattle.std.specs.Int.Signed.{lt_z}
use Rattle.laws.specs.Rows.{row_of}
use Rattle.laws.specs.Lists.{tabulate}
use Rattle.ieee.specs.Floats.{zero64}
use Rattle.factor.specs.Norms.{dot_of}
use Rattle.factor.specs.Vectors.{unit}
use Rattle.tables.specs.Table.{Table, sign_at, objective_of}

-- a sign's byte, by the test whether the product is above 0.0: 0 is +, 1 is −, and a NaN is −
abbrev pub plus_byte : Bool → ℕ
plus_byte true = 0
plus_byte false = 1

abbrev pub rounded_sign : List Float → ℕ → List Float → ℕ → ℕ
rounded_sign factor rank direction i = plus_byte (Ieee.lt zero64 (dot_of (row_of rank factor i) direction))

-- the signs of m rows: each row's product with the draw divided by its norm
unfoldable pub draw_signs : List Float → ℕ → ℕ → List Float → List ℕ
draw_signs factor rank m draw = tabulate (rounded_sign factor rank (unit draw)) m

-- the first index of the least of f 0, .., f n
unfoldable pub first_least : (ℕ → ℤ) → ℕ → ℕ
first_least f zero = 0
first_least f (suc n) = let k = first_least f n in cond (lt_z (f (suc n)) (f k)) (suc n) k

module _ (factor : List Float) (rank m : ℕ) (draws : List Float) where
  -- the signs of draw k, which has rank numbers
  abbrev pub signs_of : ℕ → List ℕ
  signs_of k = draw_signs factor rank m (row_of rank draws k)

  -- the signs of the first draws, one draw after the other (002, `compute_rounded_sols`)
  unfoldable pub rounded_sols : ℕ → List ℕ
  rounded_sols zero = []
  rounded_sols (suc k) = rounded_sols k ++ signs_of k

  module _ (t : Table) where
    -- the objective of draw k's signs, in eighths
    abbrev pub draw_objective : ℕ → ℤ
    draw_objective k = objective_of t (sign_at (signs_of k))

    -- of `count` draws, of which there is one at least, the first of least objective: its signs are the rounded choice
    abbrev pub least_draw : ℕ → ℕ
    least_draw count = first_least draw_objective (count - 1)

    unfoldable pub rounded_sol : ℕ → List ℕ
    rounded_sol count = signs_of (least_draw count)

    unfoldable pub rounded_objective : ℕ → ℤ
    rounded_objective count = draw_objective (least_draw count)
