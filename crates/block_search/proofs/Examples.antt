-- Small calls, worked by hand: the definitions compute their choices, falls and numbers. Assumes nothing.
use Prim.Native.Nat.{ℕ}
use mathlib.Core.List.{List, [], ◌∷◌}
use mathlib.Core.Path.{◌≡◌, refl}
use lib.IntN.{ℤ, pos, negsuc}
use lib.ListN.{replicate}
use Rattle.laws.specs.Sum as Sum
use Rattle.laws.specs.Lists as Lists
use Rattle.laws.specs.Rows as Rows
use Rattle.laws.specs.Turns as Turns
use Rattle.laws.specs.Refusal as Refusal
use Rattle.tables.specs.Table as Table
use Rattle.tables.specs.Cost as Cost
use Rattle.tables.specs.Flip as Flip
use Rattle.tables.specs.Check as Check
use Rattle.tables.specs.Stored as Stored
use Rattle.sign_table.specs.SignTable as SignTable
use Rattle.local_search.specs.LocalSearch as LocalSearch
use Rattle.local_search.specs.Level as Level
use Rattle.local_search.specs.SignSearch as SignSearch
use Rattle.sign_search.specs.Search as Search
use Rattle.finalize.specs.Finalize as Finalize
use Rattle.reduced.specs.Indices as Indices
use Rattle.reduced.specs.Submatrix as Submatrix
use Rattle.pinned.specs.Pinned as Pinned
use Rattle.block_search.specs.Blocks as Blocks
use Rattle.block_search.specs.Blocks.{BlockCall, falls_of, last_choice}
use Rattle.block_search.specs.Moved.{falls_of_moved, last_choice_moved}
use Rattle.block_search.specs.Numbers as Numbers
use Rattle.block_search.specs.Numbers.{block_number}
use Rattle.block_search.specs.Call.{call_of}

-- what a call lends out
pub record Answer : Type 0 where
  pub choice : List ℕ
  pub falls : List ℤ

abbrev pub answer_of : BlockCall → Answer
answer_of q = record { choice = last_choice q; falls = falls_of q }

-- by Note 6's rule
abbrev pub moved_answer_of : BlockCall → Answer
moved_answer_of q = record { choice = last_choice_moved q; falls = falls_of_moved q }

-- calls whose choice changes with Note 10: one wagon, c = −1, pinned to 0, in a block; H_01 = H_10 = 3, c = −1, −1, wagon 0 pinned to 0, in a block; H_01 = H_10 =
-- H_02 = H_20 = 3, c = −2, −1, −1, wagon 0 pinned to 0, present 1, 0, 0, blocks {0, 1} and {2}, where a free wagon moves otherwise by way of a pinned one
abbrev pub alone : BlockCall
alone = call_of 1 0 [] [] [] (negsuc 0 ∷ []) (0 ∷ []) (0 ∷ []) (0 ∷ []) (1 ∷ []) (0 ∷ []) 1

abbrev pub pair : BlockCall
pair = call_of 2 2 (0 ∷ 1 ∷ []) (1 ∷ 0 ∷ []) (pos 3 ∷ pos 3 ∷ []) (negsuc 0 ∷ negsuc 0 ∷ []) (0 ∷ []) (0 ∷ []) (0 ∷ 0 ∷ []) (1 ∷ []) (0 ∷ []) 1

abbrev pub star : BlockCall
star = call_of 3 4 (0 ∷ 0 ∷ 1 ∷ 2 ∷ []) (1 ∷ 2 ∷ 0 ∷ 0 ∷ []) (pos 3 ∷ pos 3 ∷ pos 3 ∷ pos 3 ∷ []) (negsuc 1 ∷ negsuc 0 ∷ negsuc 0 ∷ []) (0 ∷ []) (0 ∷ []) (1 ∷ 0 ∷ 0 ∷ []) (2 ∷ 1 ∷ []) (0 ∷ 1 ∷ 2 ∷ []) 1

-- old and new, one after the other
pub changed :
    (moved_answer_of alone ∷ answer_of alone ∷ moved_answer_of pair ∷ answer_of pair ∷ moved_answer_of star ∷ answer_of star ∷ [])
    ≡ (record { choice = 1 ∷ []; falls = pos 8 ∷ [] }
    ∷ record { choice = 0 ∷ []; falls = pos 0 ∷ [] }
    ∷ record { choice = 1 ∷ 0 ∷ []; falls = pos 8 ∷ [] }
    ∷ record { choice = 0 ∷ 1 ∷ []; falls = pos 0 ∷ [] }
    ∷ record { choice = 1 ∷ 0 ∷ 0 ∷ []; falls = pos 16 ∷ pos 0 ∷ [] }
    ∷ record { choice = 0 ∷ 1 ∷ 1 ∷ []; falls = pos 8 ∷ pos 8 ∷ [] }
    ∷ [])
unfolding Blocks.named Blocks.held Blocks.held_signs Blocks.held_table Blocks.answer_held Blocks.searched_held Blocks.fall_held Blocks.block_of Blocks.choice_from Blocks.block_fall Blocks.pinned_choice
    Pinned.free_of Pinned.held_byte Pinned.free_table Pinned.beside_held Pinned.free_costs Pinned.lifted Pinned.free_part Submatrix.reduced_places Finalize.choice_of
    Sum.sum Sum.sum₂ Sum.total Rows.map_first Turns.up_to Lists.any_below Lists.tabulate Lists.kept Table.share Table.least Table.value_at Table.stored_at Flip.flip_change Cost.decoded_byte
    SignTable.absorbed SignTable.sign_value Stored.row_places Stored.places SignTable.sign_kept SignTable.sign_places Search.objective_in Search.change_in Search.height_in Search.beam_search
    LocalSearch.insert LocalSearch.insert_all LocalSearch.stable_sort LocalSearch.best LocalSearch.concat LocalSearch.children_of LocalSearch.next_level LocalSearch.levels
    LocalSearch.found_in LocalSearch.searched Level.flip_byte Level.flip_sign SignSearch.improving SignSearch.sign_search
changed = refl

-- the pair without pins and blocks; no wagons, an empty block
pub calls :
    (answer_of (call_of 2 2 (0 ∷ 1 ∷ []) (1 ∷ 0 ∷ []) (pos 3 ∷ pos 3 ∷ []) (negsuc 0 ∷ negsuc 0 ∷ []) [] [] (0 ∷ 0 ∷ []) [] [] 1)
    ∷ answer_of (call_of 0 0 [] [] [] [] [] [] [] (0 ∷ []) [] 1)
    ∷ [])
    ≡ (record { choice = 1 ∷ 0 ∷ []; falls = [] }
    ∷ record { choice = []; falls = pos 0 ∷ [] }
    ∷ [])
unfolding Blocks.named Blocks.held Blocks.held_signs Blocks.held_table Blocks.answer_held Blocks.searched_held Blocks.fall_held Blocks.block_of Blocks.choice_from Blocks.block_fall Blocks.pinned_choice
    Pinned.free_of Pinned.held_byte Pinned.free_table Pinned.beside_held Pinned.free_costs Pinned.lifted Pinned.free_part Submatrix.reduced_places Finalize.choice_of
    Sum.sum Sum.sum₂ Sum.total Rows.map_first Turns.up_to Lists.any_below Lists.tabulate Lists.kept Table.share Table.least Table.value_at Table.stored_at Flip.flip_change Cost.decoded_byte
    SignTable.absorbed SignTable.sign_value Stored.row_places Stored.places SignTable.sign_kept SignTable.sign_places Search.objective_in Search.change_in Search.height_in Search.beam_search
    LocalSearch.insert LocalSearch.insert_all LocalSearch.stable_sort LocalSearch.best LocalSearch.concat LocalSearch.children_of LocalSearch.next_level LocalSearch.levels
    LocalSearch.found_in LocalSearch.searched Level.flip_byte Level.flip_sign SignSearch.improving SignSearch.sign_search
calls = refl

-- of one wagon, the workspace as long as it takes: accepted; a fall missing; a store missing; wagon 1 pinned; pinned twice, and present 2; present 2; in a block
-- twice, and W 0; wagon 1 in a block; seventeen blocks, no fall; W 0; W 129
pub numbers :
    (block_number 1 0 [] [] [] (pos 0 ∷ []) (0 ∷ []) (1 ∷ []) (0 ∷ []) (1 ∷ []) (0 ∷ []) 1 1 1 1024
    ∷ block_number 1 0 [] [] [] (pos 0 ∷ []) (0 ∷ []) (1 ∷ []) (0 ∷ []) (1 ∷ []) (0 ∷ []) 1 1 0 1024
    ∷ block_number 1 0 [] [] [] (pos 0 ∷ []) (0 ∷ []) [] (0 ∷ []) (1 ∷ []) (0 ∷ []) 1 1 1 1024
    ∷ block_number 1 0 [] [] [] (pos 0 ∷ []) (1 ∷ []) (1 ∷ []) (0 ∷ []) (1 ∷ []) (0 ∷ []) 1 1 1 1024
    ∷ block_number 1 0 [] [] [] (pos 0 ∷ []) (0 ∷ 0 ∷ []) (1 ∷ 1 ∷ []) (2 ∷ []) (1 ∷ []) (0 ∷ []) 1 1 1 1024
    ∷ block_number 1 0 [] [] [] (pos 0 ∷ []) (0 ∷ []) (1 ∷ []) (2 ∷ []) (1 ∷ []) (0 ∷ []) 1 1 1 1024
    ∷ block_number 1 0 [] [] [] (pos 0 ∷ []) (0 ∷ []) (1 ∷ []) (0 ∷ []) (2 ∷ []) (0 ∷ 0 ∷ []) 0 1 1 1024
    ∷ block_number 1 0 [] [] [] (pos 0 ∷ []) (0 ∷ []) (1 ∷ []) (0 ∷ []) (1 ∷ []) (1 ∷ []) 1 1 1 1024
    ∷ block_number 1 0 [] [] [] (pos 0 ∷ []) (0 ∷ []) (1 ∷ []) (0 ∷ []) (replicate 17 0) [] 1 1 0 1024
    ∷ block_number 1 0 [] [] [] (pos 0 ∷ []) (0 ∷ []) (1 ∷ []) (0 ∷ []) (1 ∷ []) (0 ∷ []) 0 1 1 1024
    ∷ block_number 1 0 [] [] [] (pos 0 ∷ []) (0 ∷ []) (1 ∷ []) (0 ∷ []) (1 ∷ []) (0 ∷ []) 129 1 1 1024
    ∷ [])
    ≡ 0 ∷ 31 ∷ 31 ∷ 21 ∷ 21 ∷ 22 ∷ 22 ∷ 22 ∷ 22 ∷ 19 ∷ 19 ∷ []
unfolding Numbers.block_number Numbers.call_short Numbers.lists_short Numbers.blocks_short Numbers.choices_short Numbers.list_number Numbers.bad_width Numbers.bad_blocks Numbers.bad_block Numbers.bad_pins Numbers.bad_list
    Numbers.above_one Blocks.block_of Indices.outside Indices.twice Check.hall_number Check.bad_size Check.bad_order Check.bad_entry Check.before Check.unmirrored Check.short_table
    Refusal.or_else Refusal.first Refusal.any_of Refusal.short Sum.total Lists.any_below
numbers = refl
