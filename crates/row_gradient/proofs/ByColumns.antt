-- The gradient of a row is one sum per column.
--     gradient_columns           the definition of the sweep, column by column
--     whole_block                all columns as one block
--     first_block                a block at the start of a row
--     two_ends                   a row written as two blocks
-- Assumes nothing.
use mathlib.Core.Path.{◌≡◌, refl, sym, ◌∙◌}
use mathlib.Core.List.{List}
use Prim.Native.Nat.{ℕ, ◌+◌, ◌≤◌}
use native.Mathlib.Nat.{zero-add}
use native.Mathlib.Omega.{arith}
use lib.Dec.{eqb}
use lib.Ieee.{Float}
use lib.ListN.{length, take, drop}
use Rattle.laws.specs.Rows.{map_first}
use Rattle.laws.specs.Lists.{tabulate, over}
use Rattle.laws.proofs.Made.{tabulate_all, tabulate_ext}
use Rattle.ieee.specs.Floats.{◌-ᶠ◌, at}
use Rattle.factor.specs.Columns.{put_block}
use Rattle.factor.proofs.ByColumns.{sums_columns}
use Rattle.factor.proofs.Written.{sums_put, block_next_put}
use Rattle.row_gradient.specs.Gradient.{gradient_of}
use Rattle.row_gradient.specs.Columns.{column_of, block_to}

module _ (cols : List ℕ) (values factor : List Float) (vertex rank : ℕ) where
  pub gradient_columns : gradient_of cols values factor vertex rank ≡ tabulate (column_of cols values factor vertex rank) rank
  unfolding gradient_of
  gradient_columns = sums_columns ◌-ᶠ◌ (λ k. eqb k vertex) cols values factor rank

  -- all columns as one block
  pub whole_block : block_to cols values factor vertex rank 0 rank (length cols) ≡ gradient_of cols values factor vertex rank
  whole_block = tabulate_ext _ _ rank (λ j h. rw (zero-add j)) ∙ sym gradient_columns

-- the first block of columns
pub first_block : (f : ℕ → Float) (width : ℕ) (g : List Float) → put_block width 0 (tabulate (λ j. f (0 + j)) width) g ≡ over (tabulate f width) g
unfolding tabulate
first_block f width g = rw zero-add at (block_next_put f 0 0 width g g (omega arith) (omega arith) refl)

-- rows of two blocks
module _ (cols : List ℕ) (values factor : List Float) (vertex : ℕ) where
  -- the sums of the first columns and of the last ones, which together are all
  pub two_ends : (rank a b second e : ℕ) (g g' g'' low high : List Float) → length g ≡ rank → length g' ≡ length g → second + b ≡ rank → second ≤ a → a ≤ rank
      → e ≡ length cols → low ≡ block_to cols values factor vertex rank 0 a e → high ≡ block_to cols values factor vertex rank second b e
      → g' ≡ put_block a 0 (map_first (λ j old. at low j) a (take a (drop 0 g))) g
      → g'' ≡ put_block b second (map_first (λ j old. at high j) b (take b (drop second g'))) g' → g'' ≡ gradient_of cols values factor vertex rank
  two_ends rank a b second e g g' g'' low high l l' s k m q x y h i =
      let f : ℕ → Float = column_of cols values factor vertex rank in
      let first : g' ≡ over (tabulate f a) g = sums_put (λ j. f (0 + j)) a 0 g g' low (omega arith) (rw q at x) h ∙ first_block f a g in
      sums_put (λ j. f (second + j)) b second g' g'' high (omega arith) (rw q at y) i
      ∙ (rw s at (block_next_put f a second b g g' k (omega arith) first))
      ∙ tabulate_all f rank g l
      ∙ sym (gradient_columns cols values factor vertex rank)
