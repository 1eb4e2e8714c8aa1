-- `lift_solution`, return by return; what each place of the lifted slice holds; and when nothing is refused.
-- Assumes nothing.
use mathlib.Core.Path.{◌≡◌, refl, sym, ap, ◌∙◌}
use mathlib.Core.Bool.{Bool, true, false}
use mathlib.Core.List.{List, [], ◌++◌}
use Prim.Native.Nat.{ℕ, ◌<◌, ◌≤◌}
use native.Mathlib.Nat.{le_of_eq}
use native.Mathlib.Omega.{arith}
use lib.ListN.{length, take, drop}
use lib.Seq.{length-take-le}
use lib.Dec.{ltb}
use lib.Ieee.{Float, nan}
use borrow.Author.Tests.{ltb-false, le-ltb}
use Rattle.laws.specs.Lists.{elem, fill}
use Rattle.laws.specs.Refusal.{◌if◌, short}
use Rattle.laws.proofs.Refusal.{clear, first_here, first_skip, first_last, first_end, first_head, first_rest}
use Rattle.laws.proofs.Any.{any_head, any_rest, any_not, any_none}
use Rattle.laws.proofs.MapFirst.{length_fill, get_d_map_first}
use Rattle.ieee.specs.Floats.{at, zero64}
use Rattle.limits.specs.Limits.{most_size}
use Rattle.reduced.specs.Indices.{index_refused, put_each, Mapped}
use Rattle.reduced.specs.Lift.{lifted_of, lift_short, lift_number, Lifts, LiftLent, LiftedAt, by_map, by_fixed, by_none}
use Rattle.reduced.proofs.Put.{Last, found, none, length_put, put_last, put_beyond, put_front, beyond_map_first, front_map_first}
use Rattle.reduced.proofs.Distinct.{index_mapped, mapped_index}

-- ---- what the lengths are where none is short

module _ {most size : ℕ} {map fixed : List ℕ} {values solution lifted : ℕ} where
  pub lift_lent : lift_short most size map fixed values solution lifted ≡ false → LiftLent most size map fixed values solution lifted
  unfolding lift_short short
  lift_lent e =
      let e₁ = any_rest (ltb values (length fixed)) _ e in
      let e₂ = any_rest (ltb solution (length map)) _ e₁ in
      record {
        values_there = ltb-false _ _ (any_head (ltb values (length fixed)) _ e);
        solution_there = ltb-false _ _ (any_head (ltb solution (length map)) _ e₁);
        lifted_there = λ h. ltb-false _ _ (rw (le-ltb most size h) at (any_head (short (ltb most size) size lifted) _ e₂));
      }

  pub lent_lift : size ≤ most → LiftLent most size map fixed values solution lifted → lift_short most size map fixed values solution lifted ≡ false
  unfolding lift_short short
  lent_lift h l =
      any_not _ _ (le-ltb _ _ l.values_there)
      (any_not _ _ (le-ltb _ _ l.solution_there) (any_not _ _ (rw (le-ltb most size h) (le-ltb _ _ (l.lifted_there h))) any_none))

-- ---- the writing

pub lifted_is : (size : ℕ) (map fixed : List ℕ) (values solution lifted : List Float) {cleared fixed' lifted' : List Float} → cleared ≡ fill (λ _. zero64) size lifted
    → fixed' ≡ put_each (elem fixed) (at values) (length fixed) cleared → lifted' ≡ put_each (elem map) (at solution) (length map) fixed'
    → lifted' ≡ lifted_of size map fixed values solution lifted
unfolding lifted_of
lifted_is size map fixed values solution lifted a b d = rw (d, b, a)

-- the first places written by themselves, and the others behind them as they were
lifted_front : {most size : ℕ} {map fixed : List ℕ} (values solution lifted : List Float) → Mapped most size map fixed → size ≤ length lifted
    → lifted_of size map fixed values solution (take size lifted) ++ drop size lifted ≡ lifted_of size map fixed values solution lifted
unfolding lifted_of
lifted_front {most} {size} {map} {fixed} values solution lifted m h =
    let zeros : List Float = fill (λ _. zero64) size (take size lifted) in
    let rest : List Float = drop size lifted in
    let room : length zeros ≡ size = length_fill (λ _. zero64) (take size lifted) size ∙ length-take-le size lifted h in
    sym (put_front (elem map) (at solution) (length map) (put_each (elem fixed) (at values) (length fixed) zeros) rest (λ i b. rw (length_put (elem fixed) (at values) (length fixed) zeros, room) (m.map_within.below i b)))
    ∙ ap (put_each (elem map) (at solution) (length map))
    (sym (put_front (elem fixed) (at values) (length fixed) zeros rest (λ i b. rw room (m.fixed_within.below i b)))
    ∙ ap (put_each (elem fixed) (at values) (length fixed)) (front_map_first (λ _ _. zero64) size lifted))

-- ---- the returns

pub lifts_short : {size : ℕ} {map fixed : List ℕ} {values solution lifted : List Float} {b : Bool}
    → b ≡ lift_short most_size size map fixed (length values) (length solution) (length lifted) → b ≡ true → Lifts size map fixed values solution lifted 31 lifted
unfolding lift_number
lifts_short e t =
    record { numbered = sym (first_here 30 _ _ (sym e ∙ t)); refused = λ _. refl; accepted = λ z. absurd (omega arith) }

-- the slices are long enough, and r is the number of the indices
pub record Judged (size : ℕ) (map fixed : List ℕ) (values solution lifted : List Float) (r : ℕ) : Type 0 where
  pub long : lift_short most_size size map fixed (length values) (length solution) (length lifted) ≡ false
  pub number : r ≡ 20 if index_refused most_size size map fixed

pub judged : {size : ℕ} {map fixed : List ℕ} {values solution lifted : List Float} {b : Bool} {r : ℕ}
    → b ≡ lift_short most_size size map fixed (length values) (length solution) (length lifted) → b ≡ false → r ≡ 20 if index_refused most_size size map fixed
    → Judged size map fixed values solution lifted r
judged e f n = record { long = sym e ∙ f; number = n }

module _ {size : ℕ} {map fixed : List ℕ} {values solution lifted : List Float} {r : ℕ} (j : Judged size map fixed values solution lifted r) where
  is_number : r ≡ lift_number most_size size map fixed (length values) (length solution) (length lifted)
  unfolding lift_number
  is_number = j.number ∙ sym (first_skip 31 _ _ j.long ∙ first_last _)

  pub lifts_index : (r ≡ 0 → ⊥) → Lifts size map fixed values solution lifted r lifted
  lifts_index n = record { numbered = is_number; refused = λ _. refl; accepted = λ z. absurd (n z) }

  module _ (z : r ≡ 0) where
    pub lifts_mapped : Mapped most_size size map fixed
    lifts_mapped = index_mapped (clear (index_refused most_size size map fixed) 19 (sym j.number ∙ z))

    pub long_enough : size ≤ length lifted
    long_enough = (lift_lent j.long).lifted_there lifts_mapped.small

    -- the first places, and what their writing asks
    pub front_length : size ≡ length (take size lifted)
    front_length = sym (length-take-le size lifted long_enough)

    pub lift_front : LiftLent most_size size map fixed (length values) (length solution) (length (take size lifted))
    lift_front =
        record {
          values_there = (lift_lent j.long).values_there;
          solution_there = (lift_lent j.long).solution_there;
          lifted_there = λ _. le_of_eq front_length;
        }

    pub lifts_done : {front : List Float} → front ≡ lifted_of size map fixed values solution (take size lifted)
        → Lifts size map fixed values solution lifted 0 (front ++ drop size lifted)
    lifts_done e =
        record {
          numbered = sym z ∙ is_number;
          refused = λ n. absurd (n refl);
          accepted = λ _. ap (λ (l : List Float). l ++ drop size lifted) e ∙ lifted_front values solution lifted lifts_mapped long_enough;
        }

-- ---- the theorem: nothing is refused exactly where the slices are long enough and the indices are as they should be

module _ {most size : ℕ} {map fixed : List ℕ} {values solution lifted : ℕ} where
  pub lift_accepted : lift_number most size map fixed values solution lifted ≡ 0 → LiftLent most size map fixed values solution lifted × Mapped most size map fixed
  unfolding lift_number
  lift_accepted e = (
    lift_lent (clear _ 30 (first_head (31 if lift_short most size map fixed values solution lifted) _ e)),
    index_mapped (clear _ 19 (first_head (20 if index_refused most size map fixed) [] (first_rest (31 if lift_short most size map fixed values solution lifted) _ e))),
  )

  pub lift_passes : LiftLent most size map fixed values solution lifted → Mapped most size map fixed → lift_number most size map fixed values solution lifted ≡ 0
  unfolding lift_number
  lift_passes l m = first_skip 31 _ _ (lent_lift m.small l) ∙ first_skip 20 _ _ (mapped_index m) ∙ first_end

-- ---- the theorem: a place of the lifted slice, where nothing is refused

module _ {size : ℕ} {map fixed : List ℕ} {values solution lifted : List Float} {number : ℕ} {lifted' : List Float}
    (call : Lifts size map fixed values solution lifted number lifted') (ok : number ≡ 0) where
  accepted : LiftLent most_size size map fixed (length values) (length solution) (length lifted) × Mapped most_size size map fixed
  accepted = lift_accepted (sym call.numbered ∙ ok)

  fixed' : List Float
  fixed' = put_each (elem fixed) (at values) (length fixed) (fill (λ _. zero64) size lifted)

  pub lifted_at : (k : ℕ) → k < size → LiftedAt map fixed values solution k (at lifted' k)
  unfolding lifted_of fixed'
  lifted_at k h =
      rw (call.accepted ok)
      (go
      (put_last (elem map) (at solution) (length map) fixed' k nan (rw (length_put (elem fixed) (at values) (length fixed) (fill (λ _. zero64) size lifted), length_fill (λ _. zero64) lifted size) room))
      (put_last (elem fixed) (at values) (length fixed) (fill (λ _. zero64) size lifted) k nan (rw (length_fill (λ _. zero64) lifted size) room))
      (get_d_map_first (λ _ _. zero64) size lifted k nan h room))
    where
      room : k < length lifted
      room = omega (arith, accepted.0.lifted_there accepted.1.small)

      go : {x y d : Float} → Last (elem map) (at solution) (length map) k y x → Last (elem fixed) (at values) (length fixed) k d y → d ≡ zero64
          → LiftedAt map fixed values solution k x
      go (found j b e rest) l z = by_map j b e
      go (none out) (found j b e rest) z = by_fixed j out b e rest
      go (none out) (none free) z = rw z (by_none out free)

  -- a place from the size on is as it was
  pub lifted_tail : (k : ℕ) → size ≤ k → at lifted' k ≡ at lifted k
  unfolding lifted_of fixed'
  lifted_tail k h =
      rw (call.accepted ok)
      (put_beyond (elem map) (at solution) (length map) fixed' k nan (λ i b. omega (arith, accepted.1.map_within.below i b))
      ∙ put_beyond (elem fixed) (at values) (length fixed) (fill (λ _. zero64) size lifted) k nan (λ i b. omega (arith, accepted.1.fixed_within.below i b))
      ∙ beyond_map_first (λ _ _. zero64) size lifted k nan h)
