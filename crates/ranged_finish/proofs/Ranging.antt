-- What lies within the ranges: (H, c) entry by entry as 02 gives the ranges, and each stored table at these places whose numbers lie between the ends.
-- Assumes nothing.
--     each_within     entry by entry, then place by place
--     within_each     and back, so that `Within` says no more and no less
--     stored_within   a stored table between the ends
--     low_in, high_in both ends
use mathlib.Core.Path.{◌≡◌, refl, subst, subst₂}
use mathlib.Core.Bool.{Bool, true, false}
use mathlib.Core.List.{List}
use Prim.Native.Nat.{ℕ, ◌<◌}
use native.Mathlib.Omega.{arith}
use lib.IntN.{ℤ, pos}
use lib.Signed.{◌≤ℤ◌, ≤ℤ_refl}
use Rattle.laws.specs.Lists.{elem, elem_z}
use Rattle.std.proofs.lemmas.Int.{ints}
use Rattle.tables.specs.Table.{value_at, stored_at}
use Rattle.tables.proofs.Mirrors.{value_here, stored_true, stored_false, value_none}
use Rattle.tables.specs.CostTable.{quadratic, linear}
use Rattle.ranged_finish.specs.Ranged.{RangedTable, with_values, low_of, high_of, Within, WithinEach}
use Rattle.ranged_finish.specs.Numbers.{ranged_number}
use Rattle.ranged_finish.proofs.Mono.{value_mono}
use Rattle.ranged_finish.proofs.Halls.{low_hall, high_hall, value_le, cost_le}

pub stored_within : (t : RangedTable) (values c : List ℤ)
    → ((k : ℕ) → k < t.count → elem_z t.low k ≤ℤ elem_z values k) → ((k : ℕ) → k < t.count → elem_z values k ≤ℤ elem_z t.high k)
    → ((i : ℕ) → i < t.n → elem_z t.low_c i ≤ℤ elem_z c i) → ((i : ℕ) → i < t.n → elem_z c i ≤ℤ elem_z t.high_c i)
    → Within t (value_at (quadratic (with_values t values c))) (linear (with_values t values c))
stored_within t values c from to from-c to-c =
    record {
      from_low = λ i j h k. value_mono t.count (elem t.rows) (elem t.cols) (elem_z t.low) (elem_z values) from i j;
      to_high = λ i j h k. value_mono t.count (elem t.rows) (elem t.cols) (elem_z values) (elem_z t.high) to i j;
      from_low_c = from-c;
      to_high_c = to-c;
    }

module _ (t : RangedTable) (ok : ranged_number t ≡ 0) where
  pub low_in : Within t (value_at (quadratic (low_of t))) (linear (low_of t))
  low_in = record { from_low = λ i j h k. ≤ℤ_refl _; to_high = λ i j h k. value_le t ok i j; from_low_c = λ i h. ≤ℤ_refl _; to_high_c = λ i h. cost_le t ok i h }

  pub high_in : Within t (value_at (quadratic (high_of t))) (linear (high_of t))
  high_in = record { from_low = λ i j h k. value_le t ok i j; to_high = λ i j h k. ≤ℤ_refl _; from_low_c = λ i h. cost_le t ok i h; to_high_c = λ i h. ≤ℤ_refl _ }

  -- at an entry's place stand its own two ends
  low_here : (k : ℕ) → k < t.count → value_at (quadratic (low_of t)) (elem t.rows k) (elem t.cols k) ≡ elem_z t.low k
  low_here k h = value_here (low_hall t ok).rising _ _ k h refl refl

  high_here : (k : ℕ) → k < t.count → value_at (quadratic (high_of t)) (elem t.rows k) (elem t.cols k) ≡ elem_z t.high k
  high_here k h = value_here (high_hall t ok).rising _ _ k h refl refl

  module _ (H : ℕ → ℕ → ℤ) (c : ℕ → ℤ) where
    pub each_within : WithinEach t H c → Within t H c
    each_within w =
        record {
          from_low = λ i j h k. from i j h k (stored_at (quadratic (low_of t)) i j) refl;
          to_high = λ i j h k. to i j h k (stored_at (quadratic (low_of t)) i j) refl;
          from_low_c = w.cost_from;
          to_high_c = w.cost_to;
        }
      where
        from : (i j : ℕ) → i < t.n → j < t.n → (s : Bool) → stored_at (quadratic (low_of t)) i j ≡ s → value_at (quadratic (low_of t)) i j ≤ℤ H i j
        from i j h k true e =
            let (l, m, p, q) = stored_true (quadratic (low_of t)) i j e in
            subst₂ (λ (x y : ℕ). value_at (quadratic (low_of t)) x y ≤ℤ H x y) p q (rw (low_here l m) (w.entry_from l m))
        from i j h k false e = rw (value_none (quadratic (low_of t)) i j (stored_false (quadratic (low_of t)) i j e), w.elsewhere i j h k e) (≤ℤ_refl (pos 0))

        to : (i j : ℕ) → i < t.n → j < t.n → (s : Bool) → stored_at (quadratic (low_of t)) i j ≡ s → H i j ≤ℤ value_at (quadratic (high_of t)) i j
        to i j h k true e =
            let (l, m, p, q) = stored_true (quadratic (low_of t)) i j e in
            subst₂ (λ (x y : ℕ). H x y ≤ℤ value_at (quadratic (high_of t)) x y) p q (rw (high_here l m) (w.entry_to l m))
        to i j h k false e = rw (value_none (quadratic (high_of t)) i j (stored_false (quadratic (low_of t)) i j e), w.elsewhere i j h k e) (≤ℤ_refl (pos 0))

    pub within_each : Within t H c → WithinEach t H c
    within_each w =
        record {
          entry_from = λ k h. subst (λ (z : ℤ). z ≤ℤ H (elem t.rows k) (elem t.cols k)) (low_here k h) (w.from_low _ _ (rows_in k h) (cols_in k h));
          entry_to = λ k h. subst (λ (z : ℤ). H (elem t.rows k) (elem t.cols k) ≤ℤ z) (high_here k h) (w.to_high _ _ (rows_in k h) (cols_in k h));
          elsewhere = λ i j h k e. between_zeros i j (value_none (quadratic (low_of t)) i j (stored_false (quadratic (low_of t)) i j e))
              (value_none (quadratic (high_of t)) i j (stored_false (quadratic (low_of t)) i j e)) (w.from_low i j h k) (w.to_high i j h k);
          cost_from = w.from_low_c;
          cost_to = w.to_high_c;
        }
      where
        rows_in : (k : ℕ) → k < t.count → elem t.rows k < t.n
        rows_in = (low_hall t ok).in_range.rows_in

        cols_in : (k : ℕ) → k < t.count → elem t.cols k < t.n
        cols_in = (low_hall t ok).in_range.cols_in

        between_zeros : (i j : ℕ) {a b : ℤ} → a ≡ pos 0 → b ≡ pos 0 → a ≤ℤ H i j → H i j ≤ℤ b → H i j ≡ pos 0
        between_zeros i j p q h k = omega (arith, ints)
