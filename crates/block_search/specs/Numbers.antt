-- The numbers of `block_search`, in 01's order: 31, 13, 14, 15, 16 of (H, c), 21 of the pins, 22 of the present choice and the blocks, 19 of the
-- width (02, Note 6).
use Rattle.std.specs.Prelude.{ℕ, Bool, false, List, [], ◌∷◌, ltb, ℤ, length}
use Rattle.laws.specs.Sum.{total}
use Rattle.laws.specs.Lists.{elem, any_below}
use Rattle.laws.specs.Refusal.{◌if◌, first, any_of, short}
use Rattle.limits.specs.Limits.{most_entries, most_width, most_blocks, search_workspace}
use Rattle.tables.specs.Check.{short_table}
use Rattle.table_calls.specs.Numbers.{bad_wagons, hall_number_in}
use Rattle.reduced.specs.Indices.{outside, twice}
use Rattle.block_search.specs.Blocks.{block_of}

-- "more than 16 blocks"
abbrev pub many_blocks : List ℕ → Bool
many_blocks sizes = ltb most_blocks (length sizes)

-- one of the first n bytes is above 1
unfoldable pub above_one : ℕ → List ℕ → Bool
above_one n bytes = any_below n (λ i. ltb 1 (elem bytes i))

-- a wagon of the list is out of range, or named twice
unfoldable pub bad_list : ℕ → List ℕ → Bool
bad_list n list = any_of (outside n list ∷ twice list ∷ [])

-- 21: "pin out of range, store above 1 or wagon pinned twice"
unfoldable pub bad_pins : ℕ → List ℕ → List ℕ → Bool
bad_pins n pinned stores = any_of (bad_list n pinned ∷ above_one (length pinned) stores ∷ [])

-- 22: "a present byte above 1, more than 16 blocks, or a wagon out of range or twice within a block"
unfoldable pub bad_block : ℕ → List ℕ → List ℕ → Bool
bad_block n sizes wagons = any_below (length sizes) (λ k. bad_list n (block_of sizes wagons k))

unfoldable pub bad_blocks : ℕ → List ℕ → List ℕ → List ℕ → Bool
bad_blocks n present sizes wagons = any_of (above_one n present ∷ many_blocks sizes ∷ bad_block n sizes wagons ∷ [])

-- 19: "W at least 1", and 01's limit
unfoldable pub bad_width : ℕ → Bool
bad_width width = any_of (ltb width 1 ∷ ltb most_width width ∷ [])

unfoldable pub list_number : ℕ → List ℕ → List ℕ → List ℕ → List ℕ → List ℕ → ℕ → ℕ
list_number n pinned stores present sizes wagons width =
    first (21 if bad_pins n pinned stores ∷ 22 if bad_blocks n present sizes wagons ∷ 19 if bad_width width ∷ [])

-- ---- 31, from the lengths of what is lent

-- c, present choice and choice rest on n
unfoldable pub choices_short : ℕ → ℕ → ℕ → ℕ → Bool
choices_short n c present choice = any_of (short (bad_wagons n) n c ∷ short (bad_wagons n) n present ∷ short (bad_wagons n) n choice ∷ [])

-- the wagons of the blocks and the falls rest on the number of blocks
unfoldable pub blocks_short : List ℕ → ℕ → ℕ → Bool
blocks_short sizes wagons falls = any_of (short (many_blocks sizes) (total (length sizes) (elem sizes)) wagons ∷ short (many_blocks sizes) (length sizes) falls ∷ [])

-- the stores rest on nothing: one for each pin
unfoldable pub lists_short : ℕ → ℕ → List ℕ → ℕ → ℕ → Bool
lists_short pinned stores sizes wagons falls = any_of (short false pinned stores ∷ blocks_short sizes wagons falls ∷ [])

unfoldable pub call_short : ℕ → ℕ → List ℕ → List ℕ → List ℤ → List ℤ → List ℕ → List ℕ → List ℕ → List ℕ → List ℕ → ℕ → ℕ → ℕ → Bool
call_short n count rows cols values c pinned stores present sizes wagons choice falls workspace =
    any_of
    (short_table most_entries count (length rows) (length cols) (length values)
    ∷ choices_short n (length c) (length present) choice
    ∷ lists_short (length pinned) (length stores) sizes (length wagons) falls
    ∷ short false search_workspace workspace
    ∷ [])

-- the first number that applies, 0 where none does
unfoldable pub block_number : ℕ → ℕ → List ℕ → List ℕ → List ℤ → List ℤ → List ℕ → List ℕ → List ℕ → List ℕ → List ℕ → ℕ → ℕ → ℕ → ℕ → ℕ
block_number n count rows cols values c pinned stores present sizes wagons width choice falls workspace =
    first
    (31 if call_short n count rows cols values c pinned stores present sizes wagons choice falls workspace
    ∷ hall_number_in n count rows cols values c
    ∷ list_number n pinned stores present sizes wagons width
    ∷ [])
