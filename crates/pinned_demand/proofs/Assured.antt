-- What demand 3 for the free wagons says, with no hypothesis but 02's words, so that no field of `PinnedDemand3` can ask for more. Assumes nothing.
--     moved_free_wagon     a choice that differs from b in one free wagon and in no other doesn't cost less
--     moved_free_wagons    nor does one that differs in every free wagon and in no held one
--     floor_of_keeping     no choice in which the held wagons stand in their stores costs less than the floor
use Prim.Native.Nat.{ℕ, ◌≤◌, ◌<◌}
use mathlib.Core.List.{List}
use mathlib.Core.Path.{◌≡◌}
use borrow.Author.Tests.{lt-ltb}
use lib.IntN.{ℤ}
use lib.Ieee.{Float}
use lib.Signed.{◌≤ℤ◌}
use Rattle.laws.specs.Lists.{elem}
use Rattle.tables.specs.Table.{Table}
use Rattle.tables.specs.Cost.{bit, choice_at}
use Rattle.finalize.specs.Finalize.{cost_of}
use Rattle.pinned.proofs.Lifting.{keeping}
use Rattle.pinned_demand.specs.PinnedDemand3.{PinnedDemand3}
use Rattle.pinned_demand.proofs.Pinned.{differ_free}

module _ (n : ℕ) (h : Table) (c : ℕ → ℤ) (states : List ℕ) (rank : ℕ) (factor draws : List Float) (draw_count width : ℕ) (b : List ℕ) (floor rounded cost : ℤ) (rounds : ℕ)
    (p : PinnedDemand3 n h c states rank factor draws draw_count width b floor rounded cost rounds) where
  pub moved_free_wagon : (b' : List ℕ) (i : ℕ) → i < n → 1 < elem states i → (choice_at b i ≡ choice_at b' i → ⊥)
      → ((j : ℕ) → j < n → (j ≡ i → ⊥) → choice_at b j ≡ choice_at b' j) → cost ≤ℤ cost_of n h c b'
  moved_free_wagon b' i l f d o = p.one_wagon b' (record { wagon = i; is_one = l; differs = d; others = o }) (lt-ltb 1 (elem states i) f)

  pub moved_free_wagons : (b' : List ℕ) → ((i : ℕ) → i < n → 1 < elem states i → choice_at b i ≡ choice_at b' i → ⊥)
      → ((i : ℕ) → i < n → elem states i ≤ 1 → choice_at b i ≡ choice_at b' i) → cost ≤ℤ cost_of n h c b'
  moved_free_wagons b' d s = p.all_wagons b' (differ_free n states b b' d s)

  pub floor_of_keeping : (b' : List ℕ) → ((i : ℕ) → i < n → elem states i ≤ 1 → choice_at b' i ≡ bit (elem states i)) → floor ≤ℤ cost_of n h c b'
  floor_of_keeping b' k = p.floor_under b' (keeping n states b' k)
