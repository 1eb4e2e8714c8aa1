-- Small calls, worked by hand: the definitions compute their choices, rounds, wagons moved and numbers. Assumes nothing.
use Prim.Native.Nat.{ℕ}
use mathlib.Core.List.{List, [], ◌∷◌}
use mathlib.Core.Path.{◌≡◌, refl}
use lib.IntN.{pos, negsuc}
use Rattle.laws.specs.Sum as Sum
use Rattle.laws.specs.Lists as Lists
use Rattle.laws.specs.Refusal as Refusal
use Rattle.tables.specs.Table as Table
use Rattle.tables.specs.Cost as Cost
use Rattle.tables.specs.Flip as Flip
use Rattle.tables.specs.Check as Check
use Rattle.tables.specs.Stored as Stored
use Rattle.sign_table.specs.SignTable as SignTable
use Rattle.sign_words.specs.Signs as Signs
use Rattle.sign_words.specs.Distance as Distance
use Rattle.local_search.specs.LocalSearch as LocalSearch
use Rattle.local_search.specs.LocalSearch.{Found}
use Rattle.local_search.specs.SignSearch as SignSearch
use Rattle.sign_search.specs.Within as Within
use Rattle.sign_search.specs.Search as SearchOf
use Rattle.finalize.specs.Finalize as Finalize
use Rattle.finalize.specs.Finalize.{choice_of}
use Rattle.block_search.specs.Numbers as BlockNumbers
use Rattle.limited_search.specs.Search as Search
use Rattle.limited_search.specs.Near as Near
use Rattle.limited_search.specs.Near.{wagons_moved}
use Rattle.limited_search.specs.Numbers as Numbers
use Rattle.limited_search.specs.Numbers.{limited_number}
use Rattle.limited_search.specs.Call.{call_found}

-- what an accepted call answers
pub record Answer : Type 0 where
  pub choice : List ℕ
  pub rounds : ℕ

-- three wagons, no H, c = −1, −2, −3, W 1, from p with at most k moved
abbrev pub found : List ℕ → ℕ → Found (List ℕ)
found p k = call_found 3 0 [] [] [] (negsuc 0 ∷ negsuc 1 ∷ negsuc 2 ∷ []) p k 1 [] []

abbrev pub answer_of : List ℕ → ℕ → Answer
answer_of p k = record { choice = choice_of 3 (found p k).answer; rounds = (found p k).rounds }

-- from 0, 0, 0 with k = 0, 1, 2, 3; from 1, 0, 0 with k = 1
pub choices :
    (answer_of (0 ∷ 0 ∷ 0 ∷ []) 0
    ∷ answer_of (0 ∷ 0 ∷ 0 ∷ []) 1
    ∷ answer_of (0 ∷ 0 ∷ 0 ∷ []) 2
    ∷ answer_of (0 ∷ 0 ∷ 0 ∷ []) 3
    ∷ answer_of (1 ∷ 0 ∷ 0 ∷ []) 1
    ∷ [])
    ≡ (record { choice = 0 ∷ 0 ∷ 0 ∷ []; rounds = 0 }
    ∷ record { choice = 0 ∷ 0 ∷ 1 ∷ []; rounds = 1 }
    ∷ record { choice = 0 ∷ 1 ∷ 1 ∷ []; rounds = 2 }
    ∷ record { choice = 1 ∷ 1 ∷ 1 ∷ []; rounds = 3 }
    ∷ record { choice = 1 ∷ 0 ∷ 1 ∷ []; rounds = 1 }
    ∷ [])
unfolding Search.present_signs Search.limited_found Within.near Within.within Distance.places_apart Signs.flip_byte Signs.flip_sign Finalize.choice_of
    Sum.sum Sum.sum₂ Sum.total Lists.any_below Lists.tabulate Lists.kept Table.share Table.least Table.value_at Table.stored_at Flip.flip_change Cost.decoded_byte
    SignTable.absorbed SignTable.sign_value Stored.row_places Stored.places SignTable.sign_kept SignTable.sign_places SearchOf.objective_in SearchOf.change_in SearchOf.height_in SearchOf.limited_search
    LocalSearch.insert LocalSearch.insert_all LocalSearch.stable_sort LocalSearch.best LocalSearch.concat LocalSearch.children_of LocalSearch.next_level LocalSearch.levels
    LocalSearch.found_in LocalSearch.searched SignSearch.improving SignSearch.sign_search
choices = refl

-- the same choice, other bytes for the same stores; one wagon moved; two, and bytes behind the wagons
pub moved :
    (wagons_moved 3 (0 ∷ 1 ∷ 1 ∷ []) (0 ∷ 1 ∷ 1 ∷ [])
    ∷ wagons_moved 3 (0 ∷ 1 ∷ 1 ∷ []) (0 ∷ 2 ∷ 3 ∷ [])
    ∷ wagons_moved 3 (0 ∷ 1 ∷ 1 ∷ []) (1 ∷ 1 ∷ 1 ∷ [])
    ∷ wagons_moved 3 (0 ∷ 1 ∷ 1 ∷ 1 ∷ []) (1 ∷ 1 ∷ 0 ∷ 0 ∷ [])
    ∷ [])
    ≡ 0 ∷ 0 ∷ 1 ∷ 2 ∷ []
unfolding Near.wagons_moved Sum.total
moved = refl

-- of one wagon: accepted, k = 1; accepted, k = 0; no present byte; no room for the choice; a word of the workspace missing; present 2, k = 2 and W 0; k = 2 and
-- W 0; W 0; W 129
pub numbers :
    (limited_number 1 0 [] [] [] (pos 0 ∷ []) (0 ∷ []) 1 1 1 1024
    ∷ limited_number 1 0 [] [] [] (pos 0 ∷ []) (1 ∷ []) 0 128 1 1024
    ∷ limited_number 1 0 [] [] [] (pos 0 ∷ []) [] 1 1 1 1024
    ∷ limited_number 1 0 [] [] [] (pos 0 ∷ []) (0 ∷ []) 1 1 0 1024
    ∷ limited_number 1 0 [] [] [] (pos 0 ∷ []) (2 ∷ []) 2 0 1 1023
    ∷ limited_number 1 0 [] [] [] (pos 0 ∷ []) (2 ∷ []) 2 0 1 1024
    ∷ limited_number 1 0 [] [] [] (pos 0 ∷ []) (1 ∷ []) 2 0 1 1024
    ∷ limited_number 1 0 [] [] [] (pos 0 ∷ []) (1 ∷ []) 1 0 1 1024
    ∷ limited_number 1 0 [] [] [] (pos 0 ∷ []) (1 ∷ []) 1 129 1 1024
    ∷ [])
    ≡ 0 ∷ 0 ∷ 31 ∷ 31 ∷ 31 ∷ 27 ∷ 28 ∷ 19 ∷ 19 ∷ []
unfolding Numbers.limited_number Numbers.call_short Numbers.move_number BlockNumbers.choices_short BlockNumbers.bad_width BlockNumbers.above_one Check.hall_number Check.bad_size Check.bad_order Check.bad_entry
    Check.before Check.unmirrored Check.short_table Refusal.or_else Refusal.first Refusal.any_of Refusal.short Sum.total Lists.any_below
numbers = refl
