-- What the call `least_choice` answers: the numbers 31, 13 to 16, 24, and the first choice of least cost.
use Rattle.std.specs.Prelude.{◌≡◌, Bool, List, [], ◌∷◌, ℕ, ◌<◌, ◌^◌, ltb, length, ℤ, ◌≤ℤ◌, Result, Ok, Err}
use Rattle.laws.specs.Lists.{elem_z, over}
use Rattle.laws.specs.Refusal.{◌if◌, first, any_of, short}
use Rattle.limits.specs.Limits.{most_wagons, most_entries, most_magnitude, most_walked}
use Rattle.tables.specs.Table.{Table, table_of, floor_of}
use Rattle.tables.specs.Check.{short_table, hall_number}
use Rattle.tables.specs.Bound.{entrywise}
use Rattle.sign_table.specs.SignTable.{sign_table}
use Rattle.float_bound.specs.Below.{AtMostEighths}
use Rattle.exhaustive.specs.Choices.{digits_of, cost_of, walk_cost, least_number}
use Rattle.exhaustive.specs.declared.Least.{Least}

-- 31: the table's slices rest on the count; c and the choice rest on n, which 13 and 24 refuse
unfoldable pub walk_short : ℕ → ℕ → ℕ → ℕ → ℕ → ℕ → ℕ → Bool
walk_short n count rows cols values c b =
    any_of (short_table most_entries count rows cols values ∷ short (ltb most_walked n) n c ∷ short (ltb most_walked n) n b ∷ [])

-- 16 takes a c that isn't there for 0
unfoldable pub walk_number : ℕ → ℕ → List ℕ → List ℕ → List ℤ → List ℤ → ℕ → ℕ
walk_number n count rows cols values c b =
    first
    (31 if walk_short n count (length rows) (length cols) (length values) (length c) b
    ∷ hall_number most_wagons most_entries most_magnitude n (table_of count rows cols values) (elem_z c)
    ∷ 24 if ltb most_walked n
    ∷ [])

-- what an accepted call has found
pub record Found (n : ℕ) (h : Table) (c : ℕ → ℤ) (b : List ℕ) (x : Least) (b' : List ℕ) : Type 0 where
  -- the first choice of least cost, its cost, and how many were visited
  pub choice_is : b' ≡ over (digits_of n (least_number n h c)) b
  pub cost_is : x.cost ≡ walk_cost n h c (least_number n h c)
  pub visited_is : x.visited ≡ 2 ^ n
  -- that is the cost of the bytes lent out
  pub own_cost : cost_of n h c b' ≡ x.cost
  -- every choice costs at least as much, and each one before it more
  pub least : (b'' : List ℕ) → x.cost ≤ℤ cost_of n h c b''
  pub first_of : (k : ℕ) → k < least_number n h c → walk_cost n h c k ≤ℤ x.cost → ⊥
  -- the floor isn't above it
  pub floor : floor_of (sign_table n h c) ≤ℤ x.cost
  -- nor is the float bound, with its margin, over whole numbers
  pub bound : AtMostEighths (entrywise (sign_table n h c)) x.cost

pub record Walks (n count : ℕ) (rows cols : List ℕ) (values c : List ℤ) (b : List ℕ) (answer : Result Least ℕ) (b' : List ℕ) : Type 0 where
  pub refused : (walk_number n count rows cols values c (length b) ≡ 0 → ⊥) → (answer ≡ Err (walk_number n count rows cols values c (length b))) × (b' ≡ b)
  pub accepted : walk_number n count rows cols values c (length b) ≡ 0 → (x : Least) × (answer ≡ Ok x) × Found n (table_of count rows cols values) (elem_z c) b x b'
