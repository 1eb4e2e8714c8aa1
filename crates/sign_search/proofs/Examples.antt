-- 01's halls worked by hand, computed. Assumes nothing.
use Prim.Native.Nat.{ℕ}
use mathlib.Core.List.{List, [], ◌∷◌}
use mathlib.Core.Path.{◌≡◌, refl}
use lib.IntN.{ℤ, pos, negsuc}
use Rattle.laws.specs.Sum as Sum
use Rattle.laws.specs.Lists as Lists
use Rattle.laws.specs.Lists.{elem_z}
use Rattle.tables.specs.Table as Table
use Rattle.tables.specs.Table.{Table, table_of, floor_of}
use Rattle.tables.specs.Flip as Flip
use Rattle.tables.specs.Cost as Cost
use Rattle.tables.specs.Cost.{decoded_byte}
use Rattle.sign_table.specs.SignTable as SignTable
use Rattle.sign_table.specs.SignTable.{sign_table}
use Rattle.local_search.specs.LocalSearch as LocalSearch
use Rattle.local_search.specs.LocalSearch.{Found}
use Rattle.local_search.specs.Level as Level
use Rattle.local_search.specs.SignSearch as SignSearch
use Rattle.sign_search.specs.Search.{objective_in, change_in, height_in, beam_search}

-- the search's answer, its objective, its floor and its rounds for (H, c) of n wagons; and the choice, byte by byte
abbrev worked : ℕ → Table → List ℤ → ℕ → List ℕ → Found (List ℕ) × ℤ × ℤ
worked n h c W start =
    let found = beam_search (sign_table n h (elem_z c)) W start in
    (found, objective_in (sign_table n h (elem_z c)) found.answer, floor_of (sign_table n h (elem_z c)))

-- H_01 = H_10 = 3, c = −1, −1, from +++ at width 1: choice 1, 0; −8 eighths; floor −12; rounds 1
pub two_wagons : worked 2 (table_of 2 (0 ∷ 1 ∷ []) (1 ∷ 0 ∷ []) (pos 3 ∷ pos 3 ∷ [])) (negsuc 0 ∷ negsuc 0 ∷ []) 1 (0 ∷ 0 ∷ 0 ∷ [])
    ≡ (record { answer = 1 ∷ 0 ∷ 0 ∷ []; rounds = 1 }, negsuc 7, negsuc 11)
unfolding beam_search height_in objective_in change_in Sum.sum Sum.sum₂ Table.share Table.least Table.value_at Table.stored_at Flip.flip_change SignTable.absorbed SignTable.sign_value SignTable.row_places
    SignTable.places SignTable.sign_kept SignTable.sign_places Lists.any_below LocalSearch.insert LocalSearch.insert_all LocalSearch.stable_sort LocalSearch.best LocalSearch.concat
    LocalSearch.children_of LocalSearch.next_level LocalSearch.levels LocalSearch.found_in LocalSearch.searched Level.flip_byte Level.flip_sign SignSearch.improving SignSearch.sign_search
two_wagons = refl

pub two_wagons_choice : (decoded_byte 2 (1 ∷ 0 ∷ 0 ∷ []) 0 ∷ decoded_byte 2 (1 ∷ 0 ∷ 0 ∷ []) 1 ∷ []) ≡ 1 ∷ 0 ∷ []
unfolding Cost.decoded_byte
two_wagons_choice = refl

-- n 1, H_00 = 2, c_0 = −3, the record example: choice 1; −16 eighths; floor −16; rounds 1
pub one_wagon : worked 1 (table_of 1 (0 ∷ []) (0 ∷ []) (pos 2 ∷ [])) (negsuc 2 ∷ []) 1 (0 ∷ 0 ∷ []) ≡ (record { answer = 1 ∷ 0 ∷ []; rounds = 1 }, negsuc 15, negsuc 15)
unfolding beam_search height_in objective_in change_in Sum.sum Sum.sum₂ Table.share Table.least Table.value_at Table.stored_at Flip.flip_change SignTable.absorbed SignTable.sign_value SignTable.row_places
    SignTable.places SignTable.sign_kept SignTable.sign_places Lists.any_below LocalSearch.insert LocalSearch.insert_all LocalSearch.stable_sort LocalSearch.best LocalSearch.concat
    LocalSearch.children_of LocalSearch.next_level LocalSearch.levels LocalSearch.found_in LocalSearch.searched Level.flip_byte Level.flip_sign SignSearch.improving SignSearch.sign_search
one_wagon = refl

-- n 0: one stored zero; objective, floor and rounds 0
pub no_wagon : worked 0 (table_of 0 [] [] []) [] 1 (0 ∷ []) ≡ (record { answer = 0 ∷ []; rounds = 0 }, pos 0, pos 0)
unfolding beam_search height_in objective_in change_in Sum.sum Sum.sum₂ Table.share Table.least Table.value_at Table.stored_at Flip.flip_change SignTable.absorbed SignTable.sign_value SignTable.row_places
    SignTable.places SignTable.sign_kept SignTable.sign_places Lists.any_below LocalSearch.insert LocalSearch.insert_all LocalSearch.stable_sort LocalSearch.best LocalSearch.concat
    LocalSearch.children_of LocalSearch.next_level LocalSearch.levels LocalSearch.found_in LocalSearch.searched Level.flip_byte Level.flip_sign SignSearch.improving SignSearch.sign_search
no_wagon = refl
