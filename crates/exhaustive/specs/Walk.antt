-- What the functions under the call promise: the table laid out as a square, and the walk of the choices that keep their upper digits.
use Rattle.std.specs.Prelude.{◌≡◌, List, ℕ, suc, ◌+◌, ◌-◌, ◌*◌, ◌^◌, ◌<◌, ◌≤◌, ℤ, pos, nat_abs, ◌+ℤ◌, ◌*ℤ◌}
use Rattle.laws.specs.Lists.{elem_z}
use Rattle.limits.specs.Limits.{most_magnitude, most_walked, most_sign_magnitude}
use Rattle.tables.specs.Table.{Table, value_at}
use Rattle.rounding.specs.Rounding.{first_least}

-- the best of the choices below k, of cost f; before the first, choice 0
pub record Best (f : ℕ → ℤ) (k : ℕ) (least : ℤ) (number : ℕ) : Type 0 where
  pub least_is : least ≡ f (first_least f (k - 1))
  pub number_is : number ≡ first_least f (k - 1)

-- the value at (i, j), at place mostWalked·i + j
pub record LaidOut (h : Table) (grid : List ℤ) : Type 0 where
  pub value_is : (i j : ℕ) → i < most_walked → j < most_walked → elem_z grid (i * most_walked + j) ≡ value_at h i j

-- values within the limits of a table
pub record Small (grid : List ℤ) : Type 0 where
  pub small : (i j : ℕ) → i < most_walked → j < most_walked → nat_abs (elem_z grid (i * most_walked + j)) ≤ most_magnitude

-- The walk stands at the choice `visited`, whose d lowest digits are 0: f k is choice k's cost, and g j k what digit j adds to it where the
-- digits from j down are 0. The best of those before is kept.
pub record Standing (d : ℕ) (cost : ℤ) (fields grid : List ℤ) (visited : ℕ) (least : ℤ) (number : ℕ) : Type 0 where
  pub f : ℕ → ℤ
  pub g : ℕ → ℕ → ℤ
  pub turn : ℕ
  pub few : d ≤ most_walked
  pub visited_is : visited ≡ turn * 2 ^ d
  pub within : visited + 2 ^ d ≤ 2 ^ most_walked
  pub cost_is : cost ≡ f visited
  pub fields_are : (j : ℕ) → j < d → elem_z fields j ≡ g j visited
  pub grows : (j q : ℕ) → j < d → f (q * 2 ^ suc j + 2 ^ j) ≡ f (q * 2 ^ suc j) +ℤ g j (q * 2 ^ suc j)
  pub shifts : (i j q : ℕ) → i < j → j < d → g i (q * 2 ^ suc j + 2 ^ j) ≡ g i (q * 2 ^ suc j) +ℤ pos 8 *ℤ elem_z grid (j * most_walked + i)
  pub costs_small : (k : ℕ) → nat_abs (f k) ≤ most_sign_magnitude
  pub grid_small : Small grid
  pub best : Best f visited least number

-- the fields after digit j is set: field i, for i below j, has eight times the value at (j, i) more
abbrev pub raised_field : List ℤ → List ℤ → ℕ → ℕ → ℤ
raised_field fields grid j i = elem_z fields i +ℤ pos 8 *ℤ elem_z grid (j * most_walked + i)

pub record Raised (j : ℕ) (fields grid fields' : List ℤ) : Type 0 where
  pub raised_is : (i : ℕ) → i < j → elem_z fields' i ≡ raised_field fields grid j i

pub record Raisable (j : ℕ) (fields grid : List ℤ) : Type 0 where
  pub low : j < most_walked
  pub fields_small : (i : ℕ) → i < j → nat_abs (elem_z fields i) ≤ 2 ^ 43
  pub grid_small : Small grid

-- after all choices that keep the upper digits
pub record Walked-on (f : ℕ → ℤ) (d visited : ℕ) (least : ℤ) (number visited' : ℕ) : Type 0 where
  pub visited_on : visited' ≡ visited + 2 ^ d
  pub best_on : Best f (visited + 2 ^ d) least number

-- the fields of choice 0
abbrev pub start_field : List ℤ → List ℤ → ℕ → ℤ
start_field grid c j = pos 4 *ℤ elem_z grid (j * most_walked + j) +ℤ pos 8 *ℤ elem_z c j

pub record Starts (n : ℕ) (grid c fields : List ℤ) : Type 0 where
  pub start_is : (j : ℕ) → j < n → elem_z fields j ≡ start_field grid c j
