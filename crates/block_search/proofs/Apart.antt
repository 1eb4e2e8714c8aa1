-- The pin comes first (02, Note 10): only a call with a wagon in both lists, pinned and in a block, may answer otherwise than by Note 6's rule.
--     apart_same    where no wagon is in both, every choice on the way, the last choice and the falls are those of that rule
--     apart         what is meant by that
-- Assumes nothing.
use Prim.Native.Nat.{ℕ, zero, suc, ◌≤◌, ◌<◌}
use native.Mathlib.Omega.{arith}
use mathlib.Core.Bool.{Bool, cond}
use mathlib.Core.List.{List}
use mathlib.Core.Path.{◌≡◌, refl, sym, ap, ◌∙◌}
use lib.IntN.{ℤ}
use lib.ListN.{length}
use Rattle.laws.specs.Turns.{up_to}
use Rattle.laws.specs.Lists.{elem}
use Rattle.laws.proofs.Made.{tabulate_ext}
use Rattle.tables.specs.Table.{Table}
use Rattle.block_search.specs.Blocks.{BlockCall, held, searched_held, fall_held, block_of, searched_from, fall_from, choice_from, block_fall, block_moves, first_choice, choice_after, house_moves}
use Rattle.block_search.specs.Moved.{named_moves, choice_after_moved, Apart, AsMoved}
use Rattle.block_search.proofs.Named.{named_at, unnamed}

-- ---- turns in which the same wagons move

same_held : (n : ℕ) (f g : ℕ → Bool) (b : List ℕ) → ((i : ℕ) → i < n → f i ≡ g i) → held n f b ≡ held n g b
unfolding held
same_held n f g b e = tabulate_ext (λ i. cond (f i) 2 (elem b i)) (λ i. cond (g i) 2 (elem b i)) n (λ i l. ap (λ (t : Bool). cond t 2 (elem b i)) (e i l))

module _ (n : ℕ) (h : Table) (c : ℕ → ℤ) (W : ℕ) (f g : ℕ → ℕ → Bool) (b : List ℕ) (m : ℕ) (e : (k i : ℕ) → k < m → i < n → f k i ≡ g k i) where
  pub same_choice : (k : ℕ) → k ≤ m → choice_from n h c W f b k ≡ choice_from n h c W g b k
  unfolding choice_from up_to
  same_choice zero l = refl
  same_choice (suc k) l =
      ap (λ (x : List ℕ). searched_from n h c W (f k) x) (same_choice k (omega arith))
      ∙ ap (λ (s : List ℕ). searched_held n h c W s (choice_from n h c W g b k)) (same_held n (f k) (g k) (choice_from n h c W g b k) (λ i a. e k i (omega arith) a))

  pub same_falls : (k : ℕ) → k < m → block_fall n h c W f b k ≡ block_fall n h c W g b k
  unfolding block_fall
  same_falls k l =
      ap (λ (x : List ℕ). fall_from n h c W (f k) x) (same_choice k (omega arith))
      ∙ ap (λ (s : List ℕ). fall_held n h c W s (choice_from n h c W g b k)) (same_held n (f k) (g k) (choice_from n h c W g b k) (λ i a. e k i l a))

-- ---- no wagon in both lists

-- the paper's words: no pinned wagon stands in a block
pub apart : (q : BlockCall)
    → ((j k l : ℕ) → j < length q.pinned → k < length q.sizes → l < length (block_of q.sizes q.wagons k) → elem (block_of q.sizes q.wagons k) l ≡ elem q.pinned j → ⊥) → Apart q
apart q away = record {
  unnamed_there = λ k i a e. let (j, b, w) = named_at q.pinned i e in unnamed (block_of q.sizes q.wagons k) i (λ l d v. away j k l b a d (v ∙ sym w));
}

module _ (q : BlockCall) (a : Apart q) where
  agree : (k i : ℕ) → k < length q.sizes → i < q.n → block_moves q.pinned q.sizes q.wagons k i ≡ named_moves q.sizes q.wagons k i
  agree k i l d = let u = a.unnamed_there k i l in grind arith

  same : (k : ℕ) → k ≤ length q.sizes → choice_after q k ≡ choice_after_moved q k
  same = same_choice q.n q.table q.costs q.width (block_moves q.pinned q.sizes q.wagons) (named_moves q.sizes q.wagons) (first_choice q) (length q.sizes) agree

  pub apart_same : AsMoved q
  apart_same = record {
    choices = same;
    last = ap (λ (x : List ℕ). searched_from q.n q.table q.costs q.width (house_moves q) x) (same (length q.sizes) (omega arith));
    falls = tabulate_ext _ _ (length q.sizes)
        (same_falls q.n q.table q.costs q.width (block_moves q.pinned q.sizes q.wagons) (named_moves q.sizes q.wagons) (first_choice q) (length q.sizes) agree);
  }
