-- Demand 3 on a finish of width 1 or more: n wagons, the table h of the quadratic costs H, the linear costs c; the choice b, whose bytes past
-- the wagons are whatever they are, and the reported floor, rounded cost, cost and rounds. Costs, and so floor, are in eighths.
use Rattle.std.specs.Prelude.{ℕ, ◌*◌, ◌≤◌, ◌<◌, List, ◌≡◌, ℤ, pos, ◌-ℤ◌, Float, take, ◌≤ℤ◌}
use Rattle.laws.specs.Lists.{elem}
use Rattle.tables.specs.Table.{Table}
use Rattle.tables.specs.Cost.{choice_at}
use Rattle.finalize.specs.Finalize.{cost_of, floor_eighths, drawn_choice, rounded_choice, searched_choice, searched_rounds}

-- two choices of n wagons differ in one wagon and no other; any two that do are meant (`differ_one`, proofs/Demand3)
pub record DifferInOne (n : ℕ) (b b' : List ℕ) : Type 0 where
  pub wagon : ℕ
  pub is_one : wagon < n
  pub differs : choice_at b wagon ≡ choice_at b' wagon → ⊥
  pub others : (j : ℕ) → j < n → (j ≡ wagon → ⊥) → choice_at b j ≡ choice_at b' j

-- they differ in all; any two that do are meant (`differ_all`)
pub record DifferInAll (n : ℕ) (b b' : List ℕ) : Type 0 where
  pub differ : (j : ℕ) → j < n → choice_at b j ≡ choice_at b' j → ⊥

pub record Demand3 (n : ℕ) (h : Table) (c : ℕ → ℤ) (rank : ℕ) (factor draws : List Float) (draw_count width : ℕ)
    (b : List ℕ) (floor rounded cost : ℤ) (rounds : ℕ) : Type 0 where
  -- b has a byte 0 or 1 for each wagon
  pub bytes : (i : ℕ) → i < n → elem b i ≤ 1
  -- the choice b is the answer of 01's search from 01's rounded choice of that factor
  pub answer : take n b ≡ searched_choice n h c rank factor draws draw_count width
  -- the reported cost is exactly half of b·H·b, plus c·b
  pub cost_is : cost ≡ cost_of n h c b
  -- no choice that differs from b in one wagon, or in all, costs less
  pub one_wagon : (b' : List ℕ) → DifferInOne n b b' → cost ≤ℤ cost_of n h c b'
  pub all_wagons : (b' : List ℕ) → DifferInAll n b b' → cost ≤ℤ cost_of n h c b'
  -- and no draw's rounded choice does
  pub draws_cost : (k : ℕ) → k < draw_count → cost ≤ℤ cost_of n h c (drawn_choice n rank factor draws k)
  -- each of the 2^n choices costs at least the reported floor, which is 01's
  pub floor_is : floor ≡ floor_eighths n h c
  pub floor_under : (b' : List ℕ) → floor ≤ℤ cost_of n h c b'
  -- the reported rounds are that search's
  pub rounds_are : rounds ≡ searched_rounds n h c rank factor draws draw_count width
  -- and at most twice the fall from the rounded choice's cost, also reported, to b's: a cost of one is 8 eighths
  pub rounded_is : rounded ≡ cost_of n h c (rounded_choice n h c rank factor draws draw_count)
  pub rounds_few : pos (4 * rounds) ≤ℤ (rounded -ℤ cost)
