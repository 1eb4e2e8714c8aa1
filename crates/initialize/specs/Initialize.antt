-- The factor that a run starts from (000 and 004, `prepare_initial_factor`). Definitions only.
use Rattle.std.specs.Prelude.{ℕ, ◌*◌, Bool, true, false, List, ◌++◌, Float, take, drop, set, replicate}
use Rattle.std.specs.Float.Ieee
use Rattle.std.specs.Float.Ieee.{neg}
use Rattle.laws.specs.Turns.{up_to}
use Rattle.ieee.specs.Floats.{at, zero64, one64, hundredth}
use Rattle.factor.specs.Vectors.{multiplied, projected}

-- starts 0 and 1: m rows of rank numbers, projected
unfoldable pub start_rows : ℕ → ℕ → List Float → List Float
start_rows rank m numbers = projected rank m (take (m * rank) numbers)

-- a sign as a double, by the test `x ≥ 0.0`: −0.0 is +, a NaN is −
abbrev pub sign_by : Bool → Float
sign_by true = one64
sign_by false = neg one64

-- the first column holds the signs
unfoldable pub with_signs : ℕ → ℕ → List Float → List Float → List Float
with_signs rank m signs factor = up_to (λ i f. set f (i * rank) (sign_by (Ieee.le zero64 (at signs i)))) m factor

-- start 2: the signs in the first column, over zeros
unfoldable pub start_signs : ℕ → ℕ → List Float → List Float
start_signs rank m signs = projected rank m (with_signs rank m signs (replicate (m * rank) zero64))

-- and where sweeps follow and the rank is above 1, over a hundredth of the projected draws
unfoldable pub start_drawn : ℕ → ℕ → List Float → List Float → List Float
start_drawn rank m signs draws =
    projected rank m (with_signs rank m signs (multiplied hundredth (projected rank m (take (m * rank) draws))))

-- the factor by the start's kind, whether it is signs, and whether draws follow them
abbrev pub start_by : Bool → Bool → ℕ → ℕ → List Float → List Float
start_by false drawn rank m numbers = start_rows rank m numbers
start_by true false rank m numbers = start_signs rank m numbers
start_by true true rank m numbers = start_drawn rank m numbers (drop m numbers)

-- the factor's slice at the start: what lies past its m rows stays
unfoldable pub start_within : Bool → Bool → ℕ → ℕ → List Float → List Float → List Float
start_within signs drawn rank m numbers factor = start_by signs drawn rank m numbers ++ drop (m * rank) factor
