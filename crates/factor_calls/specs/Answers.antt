-- What the calls answer and lend out.
use Rattle.std.specs.Prelude.{◌≡◌, List, ℕ, ℤ, Float, Result}
use Rattle.laws.specs.Lists.{over}
use Rattle.table_calls.specs.Answer.{eighths_answer, kept_if_refused}

-- `compute_rounded_sol`: the objective in eighths or the number, and the signs in the first places of `out`, which a refusal leaves
pub record RoundsFactor (number : ℕ) (objective : ℤ) (signs out : List ℕ) (answer : Result ℤ ℕ) (out' : List ℕ) : Type 0 where
  pub answers : answer ≡ eighths_answer number objective
  pub signs_are : out' ≡ kept_if_refused number out (over signs out)

-- `dual_variables`: the number, and the multipliers in the first places of `out`, which a refusal leaves; a longer slice keeps its tail
pub record Multiplies (number : ℕ) (multipliers out : List Float) (answer : ℕ) (out' : List Float) : Type 0 where
  pub answers : answer ≡ number
  pub multipliers_are : out' ≡ kept_if_refused number out (over multipliers out)
