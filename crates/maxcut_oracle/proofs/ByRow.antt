-- The multipliers row by row: a row of the product is that row of the table times the factor. Assumes nothing.
--     product_row_lem      row i of the product
--     by_row           the multipliers of the product, each from its row alone
use Prim.Native.Nat.{ℕ, zero, suc, ◌*◌, ◌<◌}
use mathlib.Core.Path.{◌≡◌, sym, ap, ◌∙◌}
use mathlib.Core.List.{List, ◌++◌}
use native.Mathlib.Nat.{not-suc-le-zero}
use native.Mathlib.Decide.{ℕ_discrete}
use native.Mathlib.Omega.{arith}
use lib.Ieee.{Float}
use lib.ListN.{length, take, drop}
use lib.Seq.{take_all, drop-append_seam}
use Rattle.laws.specs.Rows.{row_of}
use Rattle.laws.specs.Lists.{tabulate}
use Rattle.laws.proofs.Made.{tabulate_ext}
use Rattle.laws.proofs.Parts.{row_within, row_front}
use Rattle.factor.specs.Norms.{dot_of}
use Rattle.factor.specs.Multiply.{product_at, product_of}
use Rattle.factor.proofs.Shaping.{length_product_row, length_product_of}
use Rattle.maxcut_oracle.specs.Objective.{row_dot, multipliers}

-- the last of rows
last_row : (rank m : ℕ) (xs ys : List Float) → length xs ≡ m * rank → length ys ≡ rank → row_of rank (xs ++ ys) m ≡ ys
last_row rank m xs ys l k = ap (λ (n : ℕ). take rank (drop n (xs ++ ys))) (sym l) ∙ ap (take rank) (drop-append_seam xs ys) ∙ take_all rank ys (omega arith)

module _ (cols : List ℕ) (values : List Float) (starts : List ℕ) (factor : List Float) (rank : ℕ) where
  next_row : (m i : ℕ) → i < suc m → Dec (i ≡ m) → (i < m → row_of rank (product_of cols values starts factor rank m) i ≡ product_at cols values starts factor rank i)
      → row_of rank (product_of cols values starts factor rank (suc m)) i ≡ product_at cols values starts factor rank i
  unfolding product_of
  next_row m i h (yes e) before =
      rw e (last_row rank m (product_of cols values starts factor rank m) (product_at cols values starts factor rank m) (length_product_of cols values starts factor rank m) (length_product_row _ _ factor rank))
  next_row m i h (no n) before =
      let below : i < m = omega arith in
      row_front rank (product_of cols values starts factor rank m) _ i (rw (length_product_of cols values starts factor rank m) (row_within i m rank below)) ∙ before below

  pub product_row_lem : (m i : ℕ) → i < m → row_of rank (product_of cols values starts factor rank m) i ≡ product_at cols values starts factor rank i
  product_row_lem zero i h = absurd (not-suc-le-zero h)
  product_row_lem (suc m) i h = next_row m i h (ℕ_discrete i m) (product_row_lem m i)

  -- row i of the table times the factor, by row i of the factor
  abbrev pub at_row : ℕ → Float
  at_row i = dot_of (product_at cols values starts factor rank i) (row_of rank factor i)

  pub by_row : (m : ℕ) → tabulate at_row m ≡ multipliers (product_of cols values starts factor rank m) factor rank m
  unfolding multipliers
  by_row m = tabulate_ext at_row (row_dot (product_of cols values starts factor rank m) factor rank) m (λ i h. ap (λ (r : List Float). dot_of r (row_of rank factor i)) (sym (product_row_lem m i h)))
