-- (H, c) reduced by wagons that are held in their stores (02, Note 1): n wagons, the table h of the quadratic costs H, the linear costs c,
-- and a state for each wagon: 0 or 1, it is held in that store; 2 or more, it is free.
use Rattle.std.specs.Prelude.{◌≡◌, Bool, true, false, cond, List, ℕ, suc, ◌≤◌, ◌<◌, length, set, take, ltb, ℤ, pos, ◌+ℤ◌, ◌*ℤ◌}
use Rattle.std.specs.Int.{w64}
use Rattle.std.proofs.Common.{SFits}
use Rattle.laws.specs.Sum.{sum, only}
use Rattle.laws.specs.Lists.{elem, elem_z, tabulate, kept, over}
use Rattle.tables.specs.Table.{Table, table_of, Lent, value_at}
use Rattle.tables.specs.Stored.{stored_table, Wrote}
use Rattle.tables.specs.Cost.{bit, choice_at, cost_eighths}
use Rattle.tables.specs.Check.{Hall}
use Rattle.limits.specs.Limits.{most_wagons, most_entries, most_magnitude}
use Rattle.reduced.specs.Indices.{put_each}
use Rattle.reduced.specs.Submatrix.{value_in, reduced_places}

abbrev pub is_free : List ℕ → ℕ → Bool
is_free states i = ltb 1 (elem states i)

-- the free wagons, in rising order: wagon k of the reduced (H, c) is the one at place k
unfoldable pub free_of : ℕ → List ℕ → List ℕ
free_of n states = kept (is_free states) (λ i. i) n

-- the choice in which the held wagons stand in their stores and the free ones in 0
unfoldable pub held_byte : List ℕ → ℕ → ℕ
held_byte states i = cond (is_free states i) 0 (elem states i)

abbrev pub held_at : List ℕ → ℕ → ℤ
held_at states i = bit (held_byte states i)

-- the quadratic costs among the free wagons, as the table stores them
unfoldable pub free_table : ℕ → Table → List ℕ → Table
free_table n h states = stored_table (value_in h (free_of n states)) (reduced_places h (free_of n states))

-- the linear cost of wagon i beside those held in 1: its own, and H_ij for each j of these
unfoldable pub beside_held : ℕ → Table → (ℕ → ℤ) → List ℕ → ℕ → ℤ
beside_held n h c states i = c i +ℤ sum n (λ j. value_at h i j *ℤ held_at states j)

-- those of the free wagons
unfoldable pub free_costs : ℕ → Table → (ℕ → ℤ) → List ℕ → List ℤ
free_costs n h c states = tabulate (λ k. beside_held n h c states (elem (free_of n states) k)) (length (free_of n states))

abbrev pub free_cost : ℕ → Table → (ℕ → ℤ) → List ℕ → ℕ → ℤ
free_cost n h c states = elem_z (free_costs n h c states)

-- the constant: what the held wagons cost alone, in eighths
unfoldable pub held_cost : ℕ → Table → (ℕ → ℤ) → List ℕ → ℤ
held_cost n h c states = cost_eighths n (value_at h) c (held_at states)

-- the choice of all n wagons: the held ones in their stores, free wagon k in the store b says of it
unfoldable pub lifted : ℕ → List ℕ → List ℕ → List ℕ
lifted n states b = put_each (elem (free_of n states)) (elem b) (length (free_of n states)) (take n states)

-- and back: what a choice of all wagons says of the free ones
unfoldable pub free_part : ℕ → List ℕ → List ℕ → List ℕ
free_part n states b = tabulate (λ k. elem b (elem (free_of n states) k)) (length (free_of n states))

-- the held wagons stand in their stores; every choice in which they do is meant (`keeping`, proofs/Lifting)
pub record Keeps (n : ℕ) (states b : List ℕ) : Type 0 where
  pub same : (i : ℕ) → i < n → is_free states i ≡ false → choice_at b i ≡ bit (elem states i)

-- ---- the code: (H, c) as it is lent, and what it is reduced to, in slices

-- what is asked
pub record Reducing (n count : ℕ) (rows cols : List ℕ) (values c : List ℤ) (states : List ℕ) : Type 0 where
  pub lent : Lent count rows cols values
  pub costs_there : n ≤ length c
  pub states_there : n ≤ length states
  pub hall : Hall most_wagons most_entries most_magnitude n (table_of count rows cols values) (elem_z c)

-- what is made: the entries and costs over the fronts of the lent slices, whose tails stay; how many entries; the constant
pub record Shrinks (n : ℕ) (h : Table) (c : ℕ → ℤ) (states : List ℕ) (rows cols : List ℕ) (values costs : List ℤ) (rows' cols' : List ℕ) (values' costs' : List ℤ)
    (count : ℕ) (constant : ℤ) : Type 0 where
  pub entries : Wrote (value_in h (free_of n states)) (reduced_places h (free_of n states)) 0 rows cols values rows' cols' values'
  pub many : count ≡ length (reduced_places h (free_of n states))
  pub costs_are : costs' ≡ over (free_costs n h c states) costs
  pub constant_is : constant ≡ held_cost n h c states

-- what entry l adds to the cost of wagon i: its value where it stands in row i and the wagon of its column is in 1
abbrev pub beside_term : Table → (ℕ → ℤ) → ℕ → ℕ → ℤ
beside_term h y i l = only i (h.row l) (h.value l *ℤ y (h.column l))

-- what wagon i adds to the constant, in eighths, where s i is what those in 1 add to its cost: half of that, and its own cost, if it is in 1
abbrev pub held_term : (ℕ → ℤ) → (ℕ → ℤ) → (ℕ → ℤ) → ℕ → ℤ
held_term c s y i = (pos 4 *ℤ s i +ℤ pos 8 *ℤ c i) *ℤ y i

-- what the code asks of a wagon whose own cost and what is added to it are in two lists: both are there, and an i64 holds their sum
pub record BesideFits (c sums : List ℤ) (i : ℕ) : Type 0 where
  pub cost_there : i < length c
  pub low : i < most_wagons
  pub fits : SFits w64 (elem_z c i +ℤ elem_z sums i)

-- the place of wagon i among the free ones; the limit where it is held
unfoldable pub place_of : List ℕ → ℕ → ℕ
place_of states i = cond (is_free states i) (length (free_of i states)) most_wagons

-- entry l is free where its row and its column are, by a list of places
unfoldable pub free_entry : List ℕ → (ℕ → ℕ) → (ℕ → ℕ) → ℕ → Bool
free_entry places row column l = cond (ltb (elem places (row l)) most_wagons) (ltb (elem places (column l)) most_wagons) false

-- of so many entries those from `end` on are not kept, and the one before it is
pub record LastFree (keep : ℕ → Bool) (count end : ℕ) : Type 0 where
  pub inside : end ≤ count
  pub beyond : (l : ℕ) → end ≤ l → l < count → keep l ≡ false
  pub last : (l : ℕ) → suc l ≡ end → keep l ≡ true

-- x stands at place `at` if it is kept; no other place moves
pub record Put {A : Type 0} (keep : Bool) (at : ℕ) (x : A) (xs ys : List A) : Type 0 where
  pub here : keep ≡ true → ys ≡ set xs at x
  pub others : (v : A) → set ys at v ≡ set xs at v

-- the free entries over the fronts of the slices, under the places of their wagons; how many they are
pub record Renumbered (places : List ℕ) (h : Table) (rows cols : List ℕ) (values : List ℤ) (rows' cols' : List ℕ) (values' : List ℤ) (count : ℕ) : Type 0 where
  pub rows_are : rows' ≡ over (kept (free_entry places h.row h.column) (λ l. elem places (h.row l)) h.count) rows
  pub cols_are : cols' ≡ over (kept (free_entry places h.row h.column) (λ l. elem places (h.column l)) h.count) cols
  pub values_are : values' ≡ over (kept (free_entry places h.row h.column) h.value h.count) values
  pub many : count ≡ length (kept (free_entry places h.row h.column) h.value h.count)
