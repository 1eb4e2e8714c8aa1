-- Sums of a sign table's values are bounded by the magnitude of (H, c).
use mathlib.Core.Path.{◌≡◌, refl, ◌∙◌, ap₂}
use Prim.Native.Nat.{ℕ, ◌+◌, ◌*◌, ◌^◌, ◌<◌, ◌≤◌}
use native.Mathlib.Nat.{le_trans}
use native.Mathlib.Omega.{arith}
use borrow.Author.Tests.{eq-eqb}
use lib.Dec.{eqb}
use lib.IntN.{ℤ, pos, nat_abs, ◌+ℤ◌, ◌*ℤ◌}
use lib.Signed.{mag}
use mir.Syntax.{w64}
use mir.Val.{SFits, to_z, of_z}
use mir.Facts.{to_z-of_z}
use Rattle.laws.specs.Sum.{sum, total, only}
use Rattle.std.proofs.lemmas.Int.{unsigned_abs-mul, fits_signed_from_abs}
use Rattle.laws.proofs.Integer.{abs_add, held}
use Rattle.laws.proofs.Sums.{sum_abs, total_at, total_le, Held, sum_held}
use Rattle.laws.proofs.Totals.{onlyℕ, total_ext, total_mono, total_add, total_scale, total_swap, total_only}
use Rattle.tables.specs.Table.{Table, InRange, magnitude_of}
use Rattle.tables.proofs.Weights.{kept_le, abs_only}
use Rattle.sign_table.specs.Walk.{row_term, row_total, Convertible}

-- a row's partial sums are held
pub row_held : (count : ℕ) (row : ℕ → ℕ) (value : ℕ → ℤ) (i : ℕ) → total count (λ k. nat_abs (value k)) ≤ 2 ^ 60 → Held count (row_term row value i)
row_held count row value i small =
    sum_held 1 count (row_term row value i) (λ l. nat_abs (value l)) (λ l. rw (abs_only (row l) i (value l)) (omega (arith, kept_le (eqb (row l) i) (nat_abs (value l))))) (omega arith)

pub row_abs : (count k : ℕ) (row : ℕ → ℕ) (value : ℕ → ℤ) (i : ℕ) → k ≤ count → nat_abs (sum k (row_term row value i)) ≤ total count (λ l. nat_abs (value l))
row_abs count k row value i le =
    le_trans (sum_abs k (row_term row value i))
    (le_trans (total_mono k _ (λ l. nat_abs (value l)) (λ l b. rw (abs_only (row l) i (value l)) (kept_le (eqb (row l) i) (nat_abs (value l))))) (total_le count k (λ l. nat_abs (value l)) le))

-- what bounds row i's sum
row_bound : Table → (ℕ → ℤ) → ℕ → ℕ
row_bound h c i = total h.count (λ l. onlyℕ (h.row l) i (nat_abs (h.value l))) + 2 * nat_abs (c i)

row_bounded : (h : Table) (c : ℕ → ℤ) (i : ℕ) → nat_abs (row_total h c i) ≤ row_bound h c i
unfolding row_bound
row_bounded h c i =
    omega (
      arith,
      abs_add (sum h.count (row_term h.row h.value i)) (pos 2 *ℤ c i),
      unsigned_abs-mul (pos 2) (c i),
      sum_abs h.count (row_term h.row h.value i),
      total_ext h.count _ (λ l. onlyℕ (h.row l) i (nat_abs (h.value l))) (λ l b. abs_only (h.row l) i (h.value l)),
    )

rows_bound : {n : ℕ} {h : Table} (c : ℕ → ℤ) → InRange n h → total n (row_bound h c) ≡ magnitude_of h + 2 * total n (λ i. nat_abs (c i))
unfolding row_bound
rows_bound {n} {h} c r =
    total_add n (λ i. total h.count (λ l. onlyℕ (h.row l) i (nat_abs (h.value l)))) (λ i. 2 * nat_abs (c i))
    ∙ ap₂ ◌+◌
    (total_swap n h.count (λ i l. onlyℕ (h.row l) i (nat_abs (h.value l)))
    ∙ total_ext h.count _ (λ l. nat_abs (h.value l)) (λ l b. total_only n (h.row l) (λ i. nat_abs (h.value l)) (r.rows_in l b)))
    (total_scale n 2 (λ i. nat_abs (c i)))

-- the rows' sums together
pub rows_abs : {n : ℕ} {h : Table} (c : ℕ → ℤ) → InRange n h → total n (λ i. nat_abs (row_total h c i)) ≤ magnitude_of h + 2 * total n (λ i. nat_abs (c i))
rows_abs {n} {h} c r = omega (arith, rows_bound c r, total_mono n (λ i. nat_abs (row_total h c i)) (row_bound h c) (λ i b. row_bounded h c i))

pub rows_held : {n : ℕ} {h : Table} {c : ℕ → ℤ} → Convertible n h c → Held n (row_total h c)
rows_held {n} {h} {c} v =
    sum_held 1 n (row_total h c) (λ i. nat_abs (row_total h c i)) (λ i. omega arith) (omega (arith, rows_abs c v.in_range, v.small))

pub row_small : {n : ℕ} {h : Table} {c : ℕ → ℤ} → Convertible n h c → (i : ℕ) → i < n → nat_abs (row_total h c i) ≤ 2 ^ 60
row_small {n} {h} {c} v i b = omega (arith, total_at n i (λ x. nat_abs (row_total h c x)) b, rows_abs c v.in_range, v.small)

pub linear_small : {n : ℕ} {h : Table} {c : ℕ → ℤ} → Convertible n h c → (i : ℕ) → i < n → nat_abs (c i) ≤ 2 ^ 59
linear_small {n} {h} {c} v i b = omega (arith, total_at n i (λ x. nat_abs (c x)) b, v.small)

-- ---- sums that i64 holds

-- a row's sum and twice its linear cost
module _ (row : ℕ → ℕ) (value : ℕ → ℤ) (i : ℕ) (linear : ℤ) (a : ℕ) (r : ℤ) {count k : ℕ} (acc : to_z w64 a ≡ sum k (row_term row value i)) (ok : mag r < 2 ^ 63)
    (is : r ≡ only i i (pos 2 *ℤ linear)) (le : k ≤ count) (small : total count (λ l. nat_abs (value l)) ≤ 2 ^ 60) (low : nat_abs linear ≤ 2 ^ 59) where
  pub summed_fits : SFits w64 (to_z w64 a +ℤ to_z w64 (of_z w64 r))
  summed_fits =
      rw (acc, held r ok, is, eq-eqb i i refl)
      (fits_signed_from_abs w64 _ (omega (arith, abs_add (sum k (row_term row value i)) (pos 2 *ℤ linear), row_abs count k row value i le, unsigned_abs-mul (pos 2) linear)))

  pub summed_is : to_z w64 (of_z w64 (to_z w64 a +ℤ to_z w64 (of_z w64 r))) ≡ sum k (row_term row value i) +ℤ pos 2 *ℤ linear
  summed_is = to_z-of_z summed_fits ∙ rw (acc, held r ok, is, eq-eqb i i refl)
