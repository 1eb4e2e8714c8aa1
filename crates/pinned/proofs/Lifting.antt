-- A choice of the free wagons lifted to all wagons: what stands where, that it keeps the held ones, and that every choice which does is lifted.
-- Assumes nothing.
use mathlib.Core.Path.{◌≡◌, refl, sym, ◌∙◌, ap}
use mathlib.Core.Bool.{Bool, true, false}
use mathlib.Core.List.{List}
use Prim.Native.Nat.{ℕ, ◌<◌, ◌≤◌}
use native.Mathlib.Omega.{arith}
use borrow.Author.Tests.{ltb-false}
use lib.ListN.{length, take, drop}
use lib.Seq.{get_or-take, length-take-le}
use lib.IntN.{ℤ}
use Rattle.laws.specs.Lists.{elem, tabulate, over}
use Rattle.laws.proofs.Made.{get_d_tabulate, tabulate_take}
use Rattle.tables.specs.Table.{Table, value_at}
use Rattle.tables.specs.Cost.{bit, choice_at, cost_eighths}
use Rattle.tables.proofs.Choices.{cost_ext}
use Rattle.reduced.specs.Indices.{put_each, Within}
use Rattle.reduced.proofs.Put.{Last, found, none, put_last, put_front, length_put}
use Rattle.pinned.specs.Pinned.{is_free, free_of, lifted, free_part, Keeps}
use Rattle.pinned.proofs.Free.{free_map, free_once}

-- ---- whatever has each wagon of state 0 or 1 in that store is meant

pub keeping : (n : ℕ) (states b : List ℕ) → ((i : ℕ) → i < n → elem states i ≤ 1 → choice_at b i ≡ bit (elem states i)) → Keeps n states b
keeping n states b h = record { same = λ i l e. h i l (ltb-false 1 (elem states i) e) }

-- ---- what stands where

module _ (n : ℕ) (states b : List ℕ) (long : n ≤ length states) where
  pub length_lifted : length (lifted n states b) ≡ n
  unfolding lifted
  length_lifted = length_put (elem (free_of n states)) (elem b) (length (free_of n states)) (take n states) ∙ length-take-le n states long

  stands : (i : ℕ) → i < n → Last (elem (free_of n states)) (elem b) (length (free_of n states)) i (elem states i) (elem (lifted n states b) i)
  unfolding lifted
  stands i h =
      let l = put_last {A = ℕ} (elem (free_of n states)) (elem b) (length (free_of n states)) (take n states) i 0 (rw (length-take-le n states long) h) in
      rw (get_or-take n states i 0 h) at l

  -- free wagon k, and a held one
  pub lifted_free : (k : ℕ) → k < length (free_of n states) → elem (lifted n states b) (elem (free_of n states) k) ≡ elem b k
  lifted_free k h = go (stands (elem (free_of n states) k) ((free_map n states).below k h))
    where
      go : {y : ℕ} → Last (elem (free_of n states)) (elem b) (length (free_of n states)) (elem (free_of n states) k) (elem states (elem (free_of n states) k)) y → y ≡ elem b k
      go (found j l e rest) = ap (elem b) ((free_once n states).same j k l h e)
      go (none away) = absurd (away k h refl)

  pub lifted_held : (i : ℕ) → i < n → is_free states i ≡ false → elem (lifted n states b) i ≡ elem states i
  lifted_held i h f = go (stands i h)
    where
      go : {y : ℕ} → Last (elem (free_of n states)) (elem b) (length (free_of n states)) i (elem states i) y → y ≡ elem states i
      go (found j l e rest) = cc ((free_map n states).free j l)
      go (none away) = refl

  -- the theorem: it keeps the held wagons
  pub lifted_keeps : Keeps n states (lifted n states b)
  lifted_keeps = record { same = λ i h f. ap bit (lifted_held i h f) }

pub part_at : (n : ℕ) (states b : List ℕ) (k : ℕ) → k < length (free_of n states) → elem (free_part n states b) k ≡ elem b (elem (free_of n states) k)
unfolding free_part
part_at n states b k h = get_d_tabulate (λ k. elem b (elem (free_of n states) k)) (length (free_of n states)) k 0 h

pub part_choice : (n : ℕ) (states b : List ℕ) (k : ℕ) → k < length (free_of n states) → choice_at (free_part n states b) k ≡ choice_at b (elem (free_of n states) k)
part_choice n states b k h = ap bit (part_at n states b k h)

-- the theorem: a choice that keeps the held wagons is its free part, lifted
pub keeping_lifted : (n : ℕ) (states b : List ℕ) → n ≤ length states → Keeps n states b → (i : ℕ) → i < n → choice_at b i ≡ choice_at (lifted n states (free_part n states b)) i
keeping_lifted n states b long keeps i h = go (is_free states i) refl
  where
    go : (t : Bool) → is_free states i ≡ t → choice_at b i ≡ choice_at (lifted n states (free_part n states b)) i
    go true e =
        let (k, l, q) = (free_map n states).has i h e in
        let is : elem (lifted n states (free_part n states b)) i ≡ elem b i = (rw q at (lifted_free n states (free_part n states b) long k l ∙ part_at n states b k l)) in
        ap bit (sym is)
    go false e = keeps.same i h e ∙ ap bit (sym (lifted_held n states (free_part n states b) long i h e))

-- and costs the same
pub keeping_cost : (n : ℕ) (h : Table) (c : ℕ → ℤ) (states b : List ℕ) → n ≤ length states → Keeps n states b
    → cost_eighths n (value_at h) c (choice_at b) ≡ cost_eighths n (value_at h) c (choice_at (lifted n states (free_part n states b)))
keeping_cost n h c states b long keeps = cost_ext n (value_at h) c (keeping_lifted n states b long keeps)

-- ---- the code: the states are copied, and the choices of the free wagons put over them

pub free_in_lem : (n m : ℕ) (states : List ℕ) {free : List ℕ} → free ≡ free_of n states → n ≤ m → Within m free
free_in_lem n m states e h = rw e (record { below = λ k l. omega (arith, (free_map n states).below k l) })

pub lift_made : (n : ℕ) (states b choice : List ℕ) {free mid out : List ℕ} → n ≤ length states → free ≡ free_of n states → mid ≡ over (tabulate (elem states) n) choice
    → out ≡ put_each (elem free) (elem b) (length free) mid → out ≡ over (lifted n states b) choice
unfolding lifted
lift_made n states b choice long f e g =
    let short : length (take n states) ≡ n = length-take-le n states long in
    rw (g, f, e, tabulate_take states n 0 long, length_put (elem (free_of n states)) (elem b) (length (free_of n states)) (take n states))
    (put_front (elem (free_of n states)) (elem b) (length (free_of n states)) (take n states) (drop (length (take n states)) choice) (λ j h. omega (arith, (free_map n states).below j h)))
