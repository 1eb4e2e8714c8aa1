-- What a table's entries weigh, over the square of places.
use mathlib.Core.Path.{◌≡◌, refl, ◌∙◌, ap}
use mathlib.Core.Bool.{Bool, true, false, cond}
use Prim.Native.Nat.{ℕ, ◌<◌, ◌≤◌}
use native.Mathlib.Nat.{le_trans}
use native.Mathlib.Omega.{arith}
use lib.Dec.{eqb}
use lib.IntN.{ℤ, pos, nat_abs}
use Rattle.laws.specs.Sum.{total, only}
use Rattle.laws.proofs.Sums.{sum_abs}
use Rattle.laws.proofs.Totals.{onlyℕ, total_ext, total_zero, total_swap, total_only}
use Rattle.tables.specs.Table.{Table, InRange, value_at}

pub kept_le : (t : Bool) (x : ℕ) → cond t x 0 ≤ x
kept_le true x = omega arith
kept_le false x = omega arith

pub abs_only : (a b : ℕ) (v : ℤ) → nat_abs (only a b v) ≡ onlyℕ a b (nat_abs v)
abs_only a b v = go (eqb a b)
  where
    go : (t : Bool) → nat_abs (cond t v (pos 0)) ≡ cond t (nat_abs v) 0
    go true = refl
    go false = refl

pub spread : {n : ℕ} {h : Table} → InRange n h → (w : ℕ → ℕ)
    → total n (λ i. total n (λ j. total h.count (λ l. onlyℕ (h.row l) i (onlyℕ (h.column l) j (w l))))) ≡ total h.count w
spread {n} {h} r w =
    total_ext n _ (λ i. total h.count (λ l. total n (λ j. onlyℕ (h.row l) i (onlyℕ (h.column l) j (w l))))) (λ i b.
    total_swap n h.count (λ j l. onlyℕ (h.row l) i (onlyℕ (h.column l) j (w l))))
    ∙ total_swap n h.count (λ i l. total n (λ j. onlyℕ (h.row l) i (onlyℕ (h.column l) j (w l))))
    ∙ total_ext h.count _ w (λ l b.
    total_ext n _ (λ i. onlyℕ (h.row l) i (w l)) (λ i a. inside (eqb (h.row l) i) l b) ∙ total_only n (h.row l) (λ i. w l) (r.rows_in l b))
  where
    inside : (t : Bool) (l : ℕ) → l < h.count → total n (λ j. cond t (onlyℕ (h.column l) j (w l)) 0) ≡ cond t (w l) 0
    inside true l b = total_only n (h.column l) (λ j. w l) (r.cols_in l b)
    inside false l b = total_zero n

pub value_le : (h : Table) (i j : ℕ) → nat_abs (value_at h i j) ≤ total h.count (λ l. onlyℕ (h.row l) i (onlyℕ (h.column l) j (nat_abs (h.value l))))
unfolding value_at
value_le h i j =
    le_trans (sum_abs h.count (λ l. only (h.row l) i (only (h.column l) j (h.value l))))
    (omega (
      arith,
      total_ext h.count _ (λ l. onlyℕ (h.row l) i (onlyℕ (h.column l) j (nat_abs (h.value l)))) (λ l b.
          abs_only (h.row l) i (only (h.column l) j (h.value l)) ∙ ap (onlyℕ (h.row l) i) (abs_only (h.column l) j (h.value l))),
    ))
