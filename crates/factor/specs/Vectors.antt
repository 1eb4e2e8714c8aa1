-- Lists of floats, element by element, and the projection (005). Definitions only.
use Rattle.std.specs.Prelude.{ℕ, ◌≡◌, ◌<◌, List, Float, length}
use Rattle.laws.specs.Turns.{up_to}
use Rattle.laws.specs.Rows.{map_first, row_of, set_row}
use Rattle.ieee.specs.Floats.{◌+ᶠ◌, ◌-ᶠ◌, ◌*ᶠ◌, ◌/ᶠ◌, at}
use Rattle.ieee.specs.Sqrt.{sqrt_of}
use Rattle.factor.specs.Norms.{dot_of}

-- ys is xs with each element x changed to a y with R x y
abbrev pub Updated : (Float → Float → Type 0) → List Float → List Float → Type 0
Updated R xs ys = (length ys ≡ length xs) × ((j : ℕ) → j < length xs → R (at xs j) (at ys j))

-- with R x s y, where s is the element of source at the place of x
abbrev pub UpdatedWith : (Float → Float → Float → Type 0) → List Float → List Float → List Float → Type 0
UpdatedWith R source xs ys = (length ys ≡ length xs) × ((j : ℕ) → j < length xs → R (at xs j) (at source j) (at ys j))

-- acc with weight times source added, element by element
unfoldable pub add_scaled : Float → List Float → List Float → List Float
add_scaled weight source acc = map_first (λ j x. x +ᶠ weight *ᶠ at source j) (length acc) acc

-- acc less weight times source
unfoldable pub sub_scaled : Float → List Float → List Float → List Float
sub_scaled weight source acc = map_first (λ j x. x -ᶠ weight *ᶠ at source j) (length acc) acc

-- each element times `by`
unfoldable pub scaled : Float → List Float → List Float
scaled by xs = map_first (λ j x. x *ᶠ by) (length xs) xs

-- `by` times each element
unfoldable pub multiplied : Float → List Float → List Float
multiplied by xs = map_first (λ j x. by *ᶠ x) (length xs) xs

-- each element divided by `by`
unfoldable pub divided : Float → List Float → List Float
divided by xs = map_first (λ j x. x /ᶠ by) (length xs) xs

-- acc with source added, element by element
unfoldable pub added : List Float → List Float → List Float
added source acc = map_first (λ j x. x +ᶠ at source j) (length acc) acc

-- `norm_l2`: the root of the sum of squares
abbrev pub norm : List Float → Float
norm row = sqrt_of (dot_of row row)

-- a row divided by its norm
unfoldable pub unit : List Float → List Float
unit row = divided (norm row) row

-- row i divided by its norm
abbrev pub unit_row : ℕ → ℕ → List Float → List Float
unit_row rank i factor = set_row rank factor i (unit (row_of rank factor i))

-- every row divided by its norm, with no guard
unfoldable pub projected : ℕ → ℕ → List Float → List Float
projected rank m factor = up_to (unit_row rank) m factor
