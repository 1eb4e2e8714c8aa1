-- The sums over a row of the table, one per column.
--     entry_tabulate                 an entry's share to sums that are made by index
--     block_start_lem, block_next    a block of columns before the first entry, and after one more
--     sums_columns                   all the sums, column by column
--     product_sums                   the product's row is such sums
-- Assumes nothing.
use mathlib.Core.Path.{◌≡◌, refl, ◌∙◌}
use mathlib.Core.Bool.{Bool, true, false}
use mathlib.Core.List.{List}
use Prim.Native.Nat.{ℕ, zero, suc, ◌+◌, ◌*◌}
use native.Mathlib.Nat.{add_assoc}
use native.Mathlib.Numerals.{add-one}
use lib.Ieee.{Float}
use lib.ListN.{length, get_or, take, drop, replicate}
use Rattle.laws.specs.Turns.{up_to}
use Rattle.laws.specs.Lists.{tabulate}
use Rattle.laws.proofs.Made.{length_tabulate, tabulate_ext, tabulate_replicate}
use Rattle.ieee.specs.Floats.{◌+ᶠ◌, at, zero64}
use Rattle.factor.specs.Vectors.{add_scaled}
use Rattle.factor.specs.Multiply.{product_turn, product_row}
use Rattle.factor.specs.Columns.{with_entry, sum_to_column, sum_of_column, column_to, block_to, block_entry, sums_turn, sums_of}
use Rattle.factor.proofs.Written.{entry_made}

pub entry_tabulate : (op : Float → Float → Float) (b : Bool) (weight : Float) (factor : List Float) (start width : ℕ) (f : ℕ → Float)
    → block_entry op b width weight (take width (drop start factor)) (tabulate f width)
    ≡ tabulate (λ j. with_entry op b weight (at factor (start + j)) (f j)) width
entry_tabulate op true weight factor start width f = refl
entry_tabulate op false weight factor start width f = entry_made op weight factor start width f

module _ (op : Float → Float → Float) (out : ℕ → Bool) (cols : List ℕ) (values factor : List Float) (rank : ℕ) where
  pub block_start_lem : (offset width : ℕ) → replicate width zero64 ≡ block_to op out cols values factor rank offset width 0
  unfolding sum_to_column
  block_start_lem offset width = tabulate_replicate zero64 width

  pub block_next : (offset width n : ℕ) (sums : List Float) → sums ≡ block_to op out cols values factor rank offset width n
      → block_entry op (out (get_or cols n 0)) width (at values n) (take width (drop (get_or cols n 0 * rank + offset) factor)) sums
      ≡ block_to op out cols values factor rank offset width (n + 1)
  unfolding sum_to_column
  block_next offset width n sums e =
      rw (e, add-one n)
      (entry_tabulate op (out (get_or cols n 0)) (at values n) factor (get_or cols n 0 * rank + offset) width
      (λ j. sum_to_column op out cols values factor rank (offset + j) n)
      ∙ tabulate_ext _ _ width (λ j h. rw (add_assoc (get_or cols n 0 * rank) offset j)))

  sums_to_columns : (n : ℕ) → up_to (sums_turn op out cols values factor rank) n (replicate rank zero64)
      ≡ tabulate (λ j. sum_to_column op out cols values factor rank j n) rank
  unfolding up_to sum_to_column
  sums_to_columns zero = tabulate_replicate zero64 rank
  sums_to_columns (suc n) =
      rw (sums_to_columns n)
      (entry_tabulate op (out (get_or cols n 0)) (at values n) factor (get_or cols n 0 * rank) rank
      (λ j. sum_to_column op out cols values factor rank j n))

  pub sums_columns : sums_of op out cols values factor rank ≡ tabulate (sum_of_column op out cols values factor rank) rank
  sums_columns = sums_to_columns (length cols)

module _ (cols : List ℕ) (values factor : List Float) (rank : ℕ) where
  -- the product's sums are those that every entry is added to
  product_to_sums : (n : ℕ) → up_to (product_turn cols values factor rank) n (replicate rank zero64)
      ≡ up_to (sums_turn ◌+ᶠ◌ (λ k. false) cols values factor rank) n (replicate rank zero64)
  unfolding up_to add_scaled
  product_to_sums zero = refl
  product_to_sums (suc n) =
      rw (product_to_sums n, sums_to_columns ◌+ᶠ◌ (λ k. false) cols values factor rank n)
      (rw (length_tabulate (λ j. column_to cols values factor rank j n) rank) refl)

  pub product_sums : product_row cols values factor rank ≡ sums_of ◌+ᶠ◌ (λ k. false) cols values factor rank
  unfolding product_row
  product_sums = product_to_sums (length cols)
