-- "By block, then the house" (02, Note 6), in which the pin comes first (Note 10): n wagons, the table h of the quadratic costs H, the linear costs c, the width W of the search, and a
-- choice b, a byte for each wagon.
use Rattle.std.specs.Prelude.{ℕ, Bool, true, false, cond, List, [], ◌∷◌, ◌++◌, eqb, ℤ, ◌-ℤ◌, length, take, drop}
use Rattle.laws.specs.Sum.{total}
use Rattle.laws.specs.Turns.{up_to}
use Rattle.laws.specs.Lists.{elem, tabulate, any_below}
use Rattle.tables.specs.Table.{Table}
use Rattle.reduced.specs.Indices.{put_each}
use Rattle.sign_table.specs.SignTable.{sign_table}
use Rattle.sign_search.specs.Search.{objective_in, beam_search}
use Rattle.finalize.specs.Finalize.{choice_of}
use Rattle.pinned.specs.Pinned.{free_of, free_table, free_cost, lifted, free_part}

-- ---- one search

-- a list of wagons names wagon i
unfoldable pub named : List ℕ → ℕ → Bool
named list i = any_below (length list) (λ k. eqb (elem list k) i)

-- "with all other wagons held where they are": a state for each wagon (pinned/specs/Pinned), 2 for one that moves, else its byte of b
unfoldable pub held : ℕ → (ℕ → Bool) → List ℕ → List ℕ
held n moves b = tabulate (λ i. cond (moves i) 2 (elem b i)) n

-- "from the choice held (1 is −, anchor +)": the bytes of the free wagons, in rising order, then the anchor's
unfoldable pub held_signs : ℕ → List ℕ → List ℕ → List ℕ
held_signs n states b = free_part n states b ++ (0 ∷ [])

-- "the reduced sign table, its anchor included"
unfoldable pub held_table : ℕ → Table → (ℕ → ℤ) → List ℕ → Table
held_table n h c states = sign_table (length (free_of n states)) (free_table n h states) (free_cost n h c states)

module _ (n : ℕ) (h : Table) (c : ℕ → ℤ) (W : ℕ) (states b : List ℕ) where
  -- "each search is 01's"
  unfoldable pub answer_held : List ℕ
  answer_held = (beam_search (held_table n h c states) W (held_signs n states b)).answer

  -- "its result is taken up": the choice of all wagons, the free ones as the answer decodes
  unfoldable pub searched_held : List ℕ
  searched_held = lifted n states (choice_of (length (free_of n states)) answer_held)

  -- the fall in eighths: the start's objective less the answer's
  unfoldable pub fall_held : ℤ
  fall_held = objective_in (held_table n h c states) (held_signs n states b) -ℤ objective_in (held_table n h c states) answer_held

-- ---- blocks: a size for each, and their wagons one block after the other

-- where block k begins, and its wagons
abbrev pub block_start : List ℕ → ℕ → ℕ
block_start sizes k = total k (elem sizes)

unfoldable pub block_of : List ℕ → List ℕ → ℕ → List ℕ
block_of sizes wagons k = take (elem sizes k) (drop (block_start sizes k) wagons)

module _ (n : ℕ) (h : Table) (c : ℕ → ℤ) (W : ℕ) where
  -- the wagons that move searched from b: the choice, and the fall
  abbrev pub searched_from : (ℕ → Bool) → List ℕ → List ℕ
  searched_from moves b = searched_held n h c W (held n moves b) b

  abbrev pub fall_from : (ℕ → Bool) → List ℕ → ℤ
  fall_from moves b = fall_held n h c W (held n moves b) b

  module _ (moves : ℕ → ℕ → Bool) (b : List ℕ) where
    -- "each block in turn is searched": the choice after k turns from b, where the wagons of `moves j` move in turn j
    unfoldable pub choice_from : ℕ → List ℕ
    choice_from k = up_to (λ j x. searched_from (moves j) x) k b

    -- turn k's fall
    unfoldable pub block_fall : ℕ → ℤ
    block_fall k = fall_from (moves k) (choice_from k)

-- who is free: "the pin now comes first: such a wagon is taken out of the block before the search"
abbrev pub free_among : List ℕ → (ℕ → Bool) → ℕ → Bool
free_among pinned asked i = cond (named pinned i) false (asked i)

-- in block k's turn
abbrev pub block_moves : List ℕ → List ℕ → List ℕ → ℕ → ℕ → Bool
block_moves pinned sizes wagons k = free_among pinned (named (block_of sizes wagons k))

-- ---- a call

-- (H, c), the width, the pins as two lists, the present choice, the blocks
pub record BlockCall : Type 0 where
  pub n : ℕ
  pub table : Table
  pub costs : ℕ → ℤ
  pub width : ℕ
  pub pinned : List ℕ
  pub stores : List ℕ
  pub present : List ℕ
  pub sizes : List ℕ
  pub wagons : List ℕ

-- "a present choice, with pinned wagons first set to their store"
unfoldable pub pinned_choice : ℕ → List ℕ → List ℕ → List ℕ → List ℕ
pinned_choice n pinned stores present = put_each (elem pinned) (elem stores) (length pinned) (take n present)

abbrev pub first_choice : BlockCall → List ℕ
first_choice q = pinned_choice q.n q.pinned q.stores q.present

-- the choice after k blocks, and block k's fall
abbrev pub choice_after : BlockCall → ℕ → List ℕ
choice_after q k = choice_from q.n q.table q.costs q.width (block_moves q.pinned q.sizes q.wagons) (first_choice q) k

abbrev pub fall_of : BlockCall → ℕ → ℤ
fall_of q k = block_fall q.n q.table q.costs q.width (block_moves q.pinned q.sizes q.wagons) (first_choice q) k

-- "each block's fall in eighths"
abbrev pub falls_of : BlockCall → List ℤ
falls_of q = tabulate (fall_of q) (length q.sizes)

-- "then all wagons not pinned are searched from there"
abbrev pub house_moves : BlockCall → ℕ → Bool
house_moves q = free_among q.pinned (λ i. true)

abbrev pub last_choice : BlockCall → List ℕ
last_choice q = searched_from q.n q.table q.costs q.width (house_moves q) (choice_after q (length q.sizes))
