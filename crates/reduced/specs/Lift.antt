-- `lift_solution` (000; 01, "Reduced").
use Rattle.std.specs.Prelude.{ℕ, ◌<◌, ◌≤◌, ◌≡◌, Bool, false, List, [], ◌∷◌, length, ltb, Float}
use Rattle.laws.specs.Lists.{elem, fill}
use Rattle.laws.specs.Refusal.{◌if◌, first, any_of, short}
use Rattle.ieee.specs.Floats.{at, zero64}
use Rattle.limits.specs.Limits.{most_size}
use Rattle.reduced.specs.Indices.{index_refused, put_each}

-- 0.0 below the original size, then the fixed values at their indices, then the reduced solution at the mapped indices; the tail stays
unfoldable pub lifted_of : ℕ → List ℕ → List ℕ → List Float → List Float → List Float → List Float
lifted_of size map fixed values solution lifted =
    put_each (elem map) (at solution) (length map) (put_each (elem fixed) (at values) (length fixed) (fill (λ _. zero64) size lifted))

-- 31: a value for each fixed index, a number for each mapped one, and as many places as the original size, which may itself be refused
unfoldable pub lift_short : ℕ → ℕ → List ℕ → List ℕ → ℕ → ℕ → ℕ → Bool
lift_short most size map fixed values solution lifted =
    any_of (short false (length fixed) values ∷ short false (length map) solution ∷ short (ltb most size) size lifted ∷ [])

-- the number, from the lengths of the slices of doubles
unfoldable pub lift_number : ℕ → ℕ → List ℕ → List ℕ → ℕ → ℕ → ℕ → ℕ
lift_number most size map fixed values solution lifted =
    first (31 if lift_short most size map fixed values solution lifted ∷ 20 if index_refused most size map fixed ∷ [])

-- the call, from its arguments to its number and the lent slice at exit
pub record Lifts (size : ℕ) (map fixed : List ℕ) (values solution lifted : List Float) (number : ℕ) (lifted' : List Float) : Type 0 where
  pub numbered : number ≡ lift_number most_size size map fixed (length values) (length solution) (length lifted)
  pub refused : (number ≡ 0 → ⊥) → lifted' ≡ lifted
  pub accepted : number ≡ 0 → lifted' ≡ lifted_of size map fixed values solution lifted

-- ---- what is shown of the call

-- the slices of an accepted call
pub record LiftLent (most size : ℕ) (map fixed : List ℕ) (values solution lifted : ℕ) : Type 0 where
  pub values_there : length fixed ≤ values
  pub solution_there : length map ≤ solution
  pub lifted_there : size ≤ most → size ≤ lifted

-- what stands at k: the solution of the new index that is mapped to k, else the last value that is fixed at k, else 0.0
pub data LiftedAt (map fixed : List ℕ) (values solution : List Float) (k : ℕ) : Float → Type 0 where
  by_map : (j : ℕ) → j < length map → elem map j ≡ k → LiftedAt map fixed values solution k (at solution j)
  by_fixed : (j : ℕ) → ((i : ℕ) → i < length map → elem map i ≡ k → ⊥) → j < length fixed → elem fixed j ≡ k
      → ((i : ℕ) → j < i → i < length fixed → elem fixed i ≡ k → ⊥) → LiftedAt map fixed values solution k (at values j)
  by_none : ((i : ℕ) → i < length map → elem map i ≡ k → ⊥) → ((i : ℕ) → i < length fixed → elem fixed i ≡ k → ⊥) → LiftedAt map fixed values solution k zero64
