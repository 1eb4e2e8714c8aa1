-- What whoever has the table and the draws learns of an accepted `compute_rounded_sol`.
use Rattle.std.specs.Prelude.{◌≡◌, List, ℕ, ℤ, Result, Ok, ◌<◌, ◌≤ℤ◌, ◌<ℤ◌}
use Rattle.laws.specs.Lists.{over}
use Rattle.tables.specs.Table.{Table, sign_at, objective_of}

-- Of `count` draws, of which draw j has the signs `signs j`, one is answered: its signs are lent out in the first places of `out'`, its
-- objective is the answer, no draw has a lower one, and each draw before it has a higher one.
pub record FirstOfLeast (t : Table) (signs : ℕ → List ℕ) (count : ℕ) (answer : Result ℤ ℕ) (out out' : List ℕ) : Type 0 where
  pub draw : ℕ
  pub given : draw < count
  pub lent : out' ≡ over (signs draw) out
  pub answers : answer ≡ Ok (objective_of t (sign_at (signs draw)))
  pub none_lower : (j : ℕ) → j < count → objective_of t (sign_at (signs draw)) ≤ℤ objective_of t (sign_at (signs j))
  pub before_higher : (j : ℕ) → j < draw → objective_of t (sign_at (signs draw)) <ℤ objective_of t (sign_at (signs j))
