-- Demand 3 on a finish of width 1 or more, among the choices that keep the held wagons in their stores: n wagons, the table h of the quadratic
-- costs H, the linear costs c, a state for each wagon; the choice b of all wagons, and the reported floor, rounded cost, cost and rounds. Costs,
-- and so floor, are in eighths.
use Rattle.std.specs.Prelude.{ℕ, ◌*◌, ◌≤◌, ◌<◌, true, false, List, ◌≡◌, ℤ, pos, ◌+ℤ◌, ◌-ℤ◌, Float, length, take, ◌≤ℤ◌}
use Rattle.laws.specs.Lists.{elem}
use Rattle.tables.specs.Table.{Table}
use Rattle.tables.specs.Cost.{choice_at}
use Rattle.finalize.specs.Finalize.{cost_of, floor_eighths, drawn_choice, rounded_choice, searched_choice, searched_rounds}
use Rattle.finalize.specs.Demand3.{DifferInOne}
use Rattle.pinned.specs.Pinned.{is_free, free_of, free_table, free_cost, held_cost, lifted, Keeps}

-- two choices of n wagons differ in every free wagon and in no held one; any two that do are meant (`differ_free`, proofs/Pinned)
pub record DifferInFree (n : ℕ) (states b b' : List ℕ) : Type 0 where
  pub differ : (i : ℕ) → i < n → is_free states i ≡ true → choice_at b i ≡ choice_at b' i → ⊥
  pub stay : (i : ℕ) → i < n → is_free states i ≡ false → choice_at b i ≡ choice_at b' i

abbrev pub free_count : ℕ → List ℕ → ℕ
free_count n states = length (free_of n states)

pub record PinnedDemand3 (n : ℕ) (h : Table) (c : ℕ → ℤ) (states : List ℕ) (rank : ℕ) (factor draws : List Float) (draw_count width : ℕ)
    (b : List ℕ) (floor rounded cost : ℤ) (rounds : ℕ) : Type 0 where
  -- b has a byte 0 or 1 for each wagon, and the held ones stand in their stores
  pub bytes : (i : ℕ) → i < n → elem b i ≤ 1
  pub keeps : Keeps n states b
  -- the choice b is the answer of 01's search from 01's rounded choice of that factor on the reduced (H, c), over all wagons
  pub answer : take n b ≡ lifted n states (searched_choice (free_count n states) (free_table n h states) (free_cost n h c states) rank factor draws draw_count width)
  -- the reported cost is exactly half of b·H·b, plus c·b
  pub cost_is : cost ≡ cost_of n h c b
  -- no choice that differs from b in one free wagon, or in all of them and no other, costs less
  pub one_wagon : (b' : List ℕ) (d : DifferInOne n b b') → is_free states d.wagon ≡ true → cost ≤ℤ cost_of n h c b'
  pub all_wagons : (b' : List ℕ) → DifferInFree n states b b' → cost ≤ℤ cost_of n h c b'
  -- and no draw's rounded choice does
  pub draws_cost : (k : ℕ) → k < draw_count → cost ≤ℤ cost_of n h c (lifted n states (drawn_choice (free_count n states) rank factor draws k))
  -- each choice that keeps the held wagons costs at least the reported floor, which is 01's of the reduced (H, c), and the constant
  pub floor_is : floor ≡ floor_eighths (free_count n states) (free_table n h states) (free_cost n h c states) +ℤ held_cost n h c states
  pub floor_under : (b' : List ℕ) → Keeps n states b' → floor ≤ℤ cost_of n h c b'
  -- the reported rounds are that search's
  pub rounds_are : rounds ≡ searched_rounds (free_count n states) (free_table n h states) (free_cost n h c states) rank factor draws draw_count width
  -- and at most twice the fall from the rounded choice's cost, also reported, to b's: a cost of one is 8 eighths
  pub rounded_is : rounded ≡ cost_of n h c (lifted n states (rounded_choice (free_count n states) (free_table n h states) (free_cost n h c states) rank factor draws draw_count))
  pub rounds_few : pos (4 * rounds) ≤ℤ (rounded -ℤ cost)
