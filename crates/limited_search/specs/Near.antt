-- What holds of every accepted call (02, Note 13): n wagons, the table h of the quadratic costs H, the linear costs c, the present choice p and k; the
-- choice b, whose bytes past the wagons are whatever they are, its reported cost in eighths and the rounds.
use Rattle.std.specs.Prelude.{ℕ, ◌*◌, ◌≤◌, ◌<◌, cond, List, ◌≡◌, eqb, ℤ, pos, ◌-ℤ◌, ◌≤ℤ◌}
use Rattle.laws.specs.Lists.{elem}
use Rattle.laws.specs.Sum.{total}
use Rattle.tables.specs.Table.{Table}
use Rattle.sign_words.specs.Signs.{sign_digit}
use Rattle.finalize.specs.Finalize.{cost_of}
use Rattle.finalize.specs.Demand3.{DifferInOne}

-- how many of n wagons stand in another store; every byte but 0 is store 1
unfoldable pub wagons_moved : ℕ → List ℕ → List ℕ → ℕ
wagons_moved n b p = total n (λ i. cond (eqb (sign_digit (elem b i)) (sign_digit (elem p i))) 0 1)

pub record Near (n : ℕ) (h : Table) (c : ℕ → ℤ) (p : List ℕ) (k : ℕ) (b : List ℕ) (cost : ℤ) (rounds : ℕ) : Type 0 where
  -- b has a byte 0 or 1 for each wagon
  pub bytes : (i : ℕ) → i < n → elem b i ≤ 1
  -- "The result lies within k"
  pub within_k : wagons_moved n b p ≤ k
  -- the reported cost is the choice's own
  pub cost_is : cost ≡ cost_of n h c b
  -- "costs no more than p"
  pub no_dearer : cost ≤ℤ cost_of n h c p
  -- "and no choice that lies within k and differs from it in one wagon costs less"
  pub one_wagon : (b' : List ℕ) → DifferInOne n b b' → wagons_moved n b' p ≤ k → cost ≤ℤ cost_of n h c b'
  -- "With k = 0 it is p"
  pub none_moved : k ≡ 0 → (i : ℕ) → i < n → elem b i ≡ elem p i
  -- each round has taken 4 eighths off at least
  pub rounds_few : pos (4 * rounds) ≤ℤ (cost_of n h c p -ℤ cost)
