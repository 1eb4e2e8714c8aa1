-- The numbers of `limited_search`, in 01's order: 31, 13, 14, 15, 16 of (H, c), 27 of the present choice, 28 of k, 19 of the width (02, Note 13).
use Rattle.std.specs.Prelude.{ℕ, Bool, false, List, [], ◌∷◌, ltb, ℤ, length}
use Rattle.laws.specs.Refusal.{◌if◌, first, any_of, short}
use Rattle.limits.specs.Limits.{most_entries, search_workspace}
use Rattle.tables.specs.Check.{short_table}
use Rattle.table_calls.specs.Numbers.{hall_number_in}
use Rattle.block_search.specs.Numbers.{above_one, bad_width, choices_short}

-- 27, "a byte of p above 1", of the first n; 28, "k above n"; 19, "W at least 1", and 01's limit
unfoldable pub move_number : ℕ → List ℕ → ℕ → ℕ → ℕ
move_number n present k width = first (27 if above_one n present ∷ 28 if ltb n k ∷ 19 if bad_width width ∷ [])

-- 31, from the lengths of what is lent: c, the present choice and the choice rest on n, the workspace on nothing
unfoldable pub call_short : ℕ → ℕ → ℕ → ℕ → ℕ → ℕ → ℕ → ℕ → ℕ → Bool
call_short n count rows cols values c present choice workspace =
    any_of (short_table most_entries count rows cols values ∷ choices_short n c present choice ∷ short false search_workspace workspace ∷ [])

-- the first number that applies, 0 where none does
unfoldable pub limited_number : ℕ → ℕ → List ℕ → List ℕ → List ℤ → List ℤ → List ℕ → ℕ → ℕ → ℕ → ℕ → ℕ
limited_number n count rows cols values c present k width choice workspace =
    first
    (31 if call_short n count (length rows) (length cols) (length values) (length c) (length present) choice workspace
    ∷ hall_number_in n count rows cols values c
    ∷ move_number n present k width
    ∷ [])
