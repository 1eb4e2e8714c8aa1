-- How long a row is (02, Note 14), over whole numbers from the bits. A double's magnitude is a whole number of units of 2 ^ -1074 (`whole_units`), so a
-- square is one of units of 2 ^ -2148. Definitions only.
use Rattle.std.specs.Prelude.{ℕ, ◌+◌, ◌*◌, ◌^◌, ◌≤◌, ◌<◌, Bool, List, T, Float, length}
use Rattle.std.specs.Float.{binary64}
use Rattle.std.specs.Float.Ieee.{fits, le}
use Rattle.std.specs.Float.Ieee.Scale.{finite}
use Rattle.limits.specs.Limits.{most_rank, most_sign_entries}
use Rattle.laws.specs.Sum.{total}
use Rattle.ieee.specs.Floats.{at, zero64, tiny}
use Rattle.factor.specs.Shapes.{Shaped}
use Rattle.float_error.specs.Units.{whole_units}
use Rattle.coordinate_sweep.specs.Sweep.{norm_at, sweep_to}

-- ---- "finite and at most 2 in magnitude"

-- a double, finite, and of at most so many units
pub record FiniteUpTo (most : ℕ) (x : Float) : Type 0 where
  pub held : T (fits binary64 x)
  pub is_finite : T (finite x)
  pub low : whole_units x ≤ most

abbrev pub AtMostTwo : Float → Type 0
AtMostTwo x = FiniteUpTo (2 * 2 ^ 1074) x

-- ---- "a squared length that differs from 1 by at most 2 ^ -40"

-- the squared length, in units of 2 ^ -2148
unfoldable pub squared_length : List Float → ℕ
squared_length row = total (length row) (λ j. whole_units (at row j) * whole_units (at row j))

-- 1 and 2 ^ -40, in these units
abbrev pub one : ℕ
one = 2 ^ 2148

abbrev pub allowed : ℕ
allowed = 2 ^ 2108

pub record UnitLength (row : List Float) : Type 0 where
  pub all_finite : (j : ℕ) → j < length row → T (finite (at row j))
  pub most : squared_length row ≤ one + allowed
  pub least : one ≤ squared_length row + allowed

-- ---- "each rewritten row"

-- whether a sweep of rule 3 that starts from this factor rewrites row i: at its turn, when the rows before it are made anew, its norm is ≥ 1E-24.
-- The rows for which that is false are those that Note 2 counts.
unfoldable pub rewrites : List ℕ → List Float → List ℕ → ℕ → List Float → ℕ → Bool
rewrites cols values starts rank factor i = le tiny (norm_at cols values starts rank (sweep_to cols values starts rank zero64 factor i) i)

-- ---- what a sweep of rule 3 starts from

-- a prepared table whose values are at most 2 ^ 39, and rows of at most 32 numbers, all finite and at most 2 in magnitude
pub record SweepInput (cols : List ℕ) (values : List Float) (starts : List ℕ) (m rank : ℕ) (factor : List Float) : Type 0 where
  pub shaped : Shaped cols values starts factor m rank
  pub few : length cols ≤ most_sign_entries
  pub rank_limit : rank ≤ most_rank
  pub values_low : (e : ℕ) → e < length values → FiniteUpTo (2 ^ 39 * 2 ^ 1074) (at values e)
  pub factor_low : (k : ℕ) → k < length factor → AtMostTwo (at factor k)
