-- A cost rises with its table: larger entries and larger c never make a choice cheaper. Assumes nothing.
use mathlib.Core.Bool.{Bool, true, false, cond}
use mathlib.Core.List.{List}
use Prim.Native.Nat.{ℕ, zero, suc, ◌<◌}
use native.Mathlib.Omega.{arith}
use lib.Dec.{eqb}
use lib.IntN.{ℤ, pos, ◌+ℤ◌, ◌*ℤ◌, *ℤ-zero, zero-*ℤ}
use lib.Signed.{◌≤ℤ◌, ≤ℤ_refl}
use Rattle.laws.specs.Sum.{sum₂}
use Rattle.laws.specs.Lists.{elem}
use Rattle.std.proofs.lemmas.Int.{ints}
use Rattle.laws.proofs.Integer.{times_one}
use Rattle.laws.proofs.Sums.{sum_le}
use Rattle.tables.specs.Table.{value_at}
use Rattle.tables.specs.Cost.{cost_eighths, bit, choice_at}

both_rise : (a b c d : ℤ) → a ≤ℤ b → c ≤ℤ d → (pos 4 *ℤ a +ℤ pos 8 *ℤ c) ≤ℤ (pos 4 *ℤ b +ℤ pos 8 *ℤ d)
both_rise a b c d h k = omega (arith, ints)

-- what a wagon takes part in, and what two do
one_rises : (a b : ℤ) (x : ℕ) → a ≤ℤ b → (a *ℤ bit x) ≤ℤ (b *ℤ bit x)
one_rises a b zero h = rw (*ℤ-zero a, *ℤ-zero b) (≤ℤ_refl (pos 0))
one_rises a b (suc x) h = rw (times_one a, times_one b) h

two_rise : (a b : ℤ) (x y : ℕ) → a ≤ℤ b → (a *ℤ (bit x *ℤ bit y)) ≤ℤ (b *ℤ (bit x *ℤ bit y))
two_rise a b zero y h = rw (zero-*ℤ (bit y), *ℤ-zero a, *ℤ-zero b) (≤ℤ_refl (pos 0))
two_rise a b (suc x) zero h = rw (*ℤ-zero a, *ℤ-zero b) (≤ℤ_refl (pos 0))
two_rise a b (suc x) (suc y) h = rw (times_one a, times_one b) h

pub cost_mono : (n : ℕ) (H H' : ℕ → ℕ → ℤ) (c c' : ℕ → ℤ) (b : List ℕ)
    → ((i j : ℕ) → i < n → j < n → H i j ≤ℤ H' i j) → ((i : ℕ) → i < n → c i ≤ℤ c' i)
    → cost_eighths n H c (choice_at b) ≤ℤ cost_eighths n H' c' (choice_at b)
unfolding cost_eighths sum₂
cost_mono n H H' c c' b h l =
    both_rise _ _ _ _
    (sum_le n _ _ (λ i k. sum_le n _ _ (λ j m. two_rise (H i j) (H' i j) (elem b i) (elem b j) (h i j k m))))
    (sum_le n _ _ (λ i k. one_rises (c i) (c' i) (elem b i) (l i k)))

-- the value at a place rises with the entries
placed_rise : (s t : Bool) (a b : ℤ) → a ≤ℤ b → cond s (cond t a (pos 0)) (pos 0) ≤ℤ cond s (cond t b (pos 0)) (pos 0)
placed_rise true true a b h = h
placed_rise true false a b h = ≤ℤ_refl (pos 0)
placed_rise false t a b h = ≤ℤ_refl (pos 0)

pub value_mono : (count : ℕ) (row column : ℕ → ℕ) (low high : ℕ → ℤ) → ((k : ℕ) → k < count → low k ≤ℤ high k) → (i j : ℕ)
    → value_at (record { count = count; row = row; column = column; value = low }) i j ≤ℤ value_at (record { count = count; row = row; column = column; value = high }) i j
unfolding value_at
value_mono count row column low high h i j = sum_le count _ _ (λ k l. placed_rise (eqb (row k) i) (eqb (column k) j) (low k) (high k) (h k l))
