-- The float bound is the exact floor, in whole units, less its margin: eighths up to 2 ^ 53 in magnitude and their sums are exact in doubles.
use mathlib.Core.Path.{◌≡◌, refl, ◌∙◌, ap}
use mathlib.Core.Bool.{Bool, true, false, cond}
use Prim.Native.Nat.{ℕ, zero, suc, ◌^◌, ◌≤◌}
use native.Mathlib.Nat.{le_trans}
use native.Mathlib.Omega.{arith}
use lib.Dec.{eqb}
use lib.IntN.{ℤ, pos, neg_ℤ, nat_abs, ◌+ℤ◌}
use lib.Ieee.{of_bits, of_int, div, neg}
use Rattle.laws.specs.Sum.{sum, total}
use Rattle.laws.proofs.Sums.{sum_abs, total_le}
use Rattle.laws.proofs.Totals.{total_mono}
use Rattle.ieee.specs.Floats.{◌+ᶠ◌, ◌-ᶠ◌, zero64, eighth_of}
use Rattle.ieee.proofs.Eighths.{eighth_add, eighth_less}
use Rattle.tables.specs.Table.{Table, magnitude_of, least, floor_term, floor_of}
use Rattle.tables.specs.Bound.{bound_term, bound_sum, magnitude_sum, margin, entrywise}
use Rattle.tables.proofs.Shares.{value_small, abs_least}

zero_eighths : zero64 ≡ eighth_of (pos 0)
unfolding eighth_of div of_int of_bits
zero_eighths = refl

-- one more entry
term_exact : (a : ℤ) (i j : ℕ) (v : ℤ) → nat_abs a ≤ 2 ^ 53 → nat_abs v ≤ 2 ^ 53 → nat_abs (a +ℤ least i j v) ≤ 2 ^ 53 → eighth_of a +ᶠ bound_term i j v ≡ eighth_of (a +ℤ least i j v)
unfolding bound_term least
term_exact a i j v h l m = go (eqb i j) m
  where
    go : (t : Bool) → nat_abs (a +ℤ cond t v (neg_ℤ (pos (nat_abs v)))) ≤ 2 ^ 53 → eighth_of a +ᶠ cond t (eighth_of v) (neg (eighth_of (pos (nat_abs v)))) ≡ eighth_of (a +ℤ cond t v (neg_ℤ (pos (nat_abs v))))
    go true k = eighth_add a v h l k
    go false k = eighth_less a (nat_abs v) h l k

module _ (t : Table) (small : magnitude_of t ≤ 2 ^ 53) where
  floor_le : (k : ℕ) → k ≤ t.count → nat_abs (sum k (floor_term t)) ≤ 2 ^ 53
  floor_le k h =
      le_trans (sum_abs k (floor_term t))
      (le_trans (total_mono k (λ l. nat_abs (floor_term t l)) (λ l. nat_abs (t.value l)) (λ l b. omega (arith, abs_least (t.row l) (t.column l) (t.value l))))
      (le_trans (total_le t.count k (λ l. nat_abs (t.value l)) h) small))

  sums_exact : (k : ℕ) → k ≤ t.count → bound_sum t k ≡ eighth_of (sum k (floor_term t))
  unfolding bound_sum sum
  sums_exact zero h = zero_eighths
  sums_exact (suc k) h =
      ap (λ x. x +ᶠ bound_term (t.row k) (t.column k) (t.value k)) (sums_exact k (omega arith))
      ∙ term_exact (sum k (floor_term t)) (t.row k) (t.column k) (t.value k) (floor_le k (omega arith)) (value_small t small k (omega arith)) (floor_le (suc k) h)

  magnitudes_exact : (k : ℕ) → k ≤ t.count → magnitude_sum t.value k ≡ eighth_of (pos (total k (λ l. nat_abs (t.value l))))
  unfolding magnitude_sum total
  magnitudes_exact zero h = zero_eighths
  magnitudes_exact (suc k) h =
      let before : total k (λ l. nat_abs (t.value l)) ≤ 2 ^ 53 = le_trans (total_le t.count k (λ l. nat_abs (t.value l)) (omega arith)) small in
      let after : total (suc k) (λ l. nat_abs (t.value l)) ≤ 2 ^ 53 = le_trans (total_le t.count (suc k) (λ l. nat_abs (t.value l)) h) small in
      ap (λ x. x +ᶠ eighth_of (pos (nat_abs (t.value k)))) (magnitudes_exact k (omega arith))
      ∙ eighth_add (pos (total k (λ l. nat_abs (t.value l)))) (pos (nat_abs (t.value k))) before (value_small t small k (omega arith)) after

  -- the bound's two sums
  pub bound_exact : bound_sum t t.count ≡ eighth_of (floor_of t)
  bound_exact = sums_exact t.count (omega arith)

  pub magnitude_exact : magnitude_sum t.value t.count ≡ eighth_of (pos (magnitude_of t))
  magnitude_exact = magnitudes_exact t.count (omega arith)

  -- the float bound
  pub entrywise_exact : entrywise t ≡ eighth_of (floor_of t) -ᶠ margin t.count (eighth_of (pos (magnitude_of t)))
  unfolding entrywise
  entrywise_exact = rw (bound_exact, magnitude_exact)
