-- Note 6's rule, in which a block moved every wagon that it named, a pinned one too: kept for `apart_same` (proofs/Apart) alone.
use Rattle.std.specs.Prelude.{ℕ, ◌≤◌, ◌<◌, Bool, true, false, List, ◌≡◌, ℤ, length}
use Rattle.laws.specs.Lists.{tabulate}
use Rattle.block_search.specs.Blocks.{BlockCall, named, block_of, searched_from, choice_from, block_fall, first_choice, choice_after, house_moves, last_choice, falls_of}

abbrev pub named_moves : List ℕ → List ℕ → ℕ → ℕ → Bool
named_moves sizes wagons k = named (block_of sizes wagons k)

abbrev pub choice_after_moved : BlockCall → ℕ → List ℕ
choice_after_moved q k = choice_from q.n q.table q.costs q.width (named_moves q.sizes q.wagons) (first_choice q) k

abbrev pub falls_of_moved : BlockCall → List ℤ
falls_of_moved q = tabulate (block_fall q.n q.table q.costs q.width (named_moves q.sizes q.wagons) (first_choice q)) (length q.sizes)

abbrev pub last_choice_moved : BlockCall → List ℕ
last_choice_moved q = searched_from q.n q.table q.costs q.width (house_moves q) (choice_after_moved q (length q.sizes))

-- no wagon is in both lists: pinned and in a block; every such call is meant (`apart`, proofs/Apart)
pub record Apart (q : BlockCall) : Type 0 where
  pub unnamed_there : (k i : ℕ) → k < length q.sizes → named q.pinned i ≡ true → named (block_of q.sizes q.wagons k) i ≡ false

-- every choice on the way, the last one and the falls are those of that rule
pub record AsMoved (q : BlockCall) : Type 0 where
  pub choices : (k : ℕ) → k ≤ length q.sizes → choice_after q k ≡ choice_after_moved q k
  pub last : last_choice q ≡ last_choice_moved q
  pub falls : falls_of q ≡ falls_of_moved q
