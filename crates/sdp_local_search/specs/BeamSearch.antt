-- The call `beam_search` on a sign table: its numbers, in 01's order, and the signs it starts from.
use Rattle.std.specs.Prelude.{ℕ, Bool, false, List, [], ◌∷◌, ltb}
use Rattle.laws.specs.Lists.{elem, tabulate}
use Rattle.laws.specs.Refusal.{◌if◌, first, any_of, short}
use Rattle.sign_words.specs.Signs.{sign_digit}
use Rattle.limits.specs.Limits.{most_signs, most_sign_entries, most_sign_magnitude, most_width, search_workspace}
use Rattle.tables.specs.Table.{Table}
use Rattle.tables.specs.Check.{short_table, table_number}

-- what a call takes at most: signs, entries, the sum of the absolute values, width; and the words of workspace that it asks
pub record Limits : Type 0 where
  pub signs : ℕ
  pub entries : ℕ
  pub magnitude : ℕ
  pub width : ℕ
  pub workspace : ℕ

abbrev pub base_limits : Limits
base_limits = record { signs = most_signs; entries = most_sign_entries; magnitude = most_sign_magnitude; width = most_width; workspace = search_workspace }

-- 31, from the lengths of what is lent: the table's slices rest on the count, those of signs on m, the workspace on nothing
unfoldable pub search_short : Limits → ℕ → ℕ → ℕ → ℕ → ℕ → ℕ → ℕ → ℕ → Bool
search_short most m count rows cols values start out workspace =
    any_of
    (short_table most.entries count rows cols values
    ∷ short (ltb most.signs m) m start
    ∷ short (ltb most.signs m) m out
    ∷ short false most.workspace workspace
    ∷ [])

-- the first number that applies, 0 where none does: 31, 13 to 16 of the table, 19 of the width
unfoldable pub search_refusal : Limits → ℕ → ℕ → Bool → Table → ℕ
search_refusal most m width too_short t =
    first (31 if too_short ∷ table_number most.signs most.entries most.magnitude m t ∷ 19 if (ltb most.width width) ∷ [])

-- the first m signs of a slice as they are lent out, 0 for + and 1 for −
unfoldable pub sign_bytes : ℕ → List ℕ → List ℕ
sign_bytes m start = tabulate (λ i. sign_digit (elem start i)) m
