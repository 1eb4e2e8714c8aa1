-- What the definitions say of small tables. Entries are (0,0), (0,1), (1,0), (1,1).
-- Assumes nothing.
use mathlib.Core.Path.{◌≡◌, refl}
use mathlib.Core.List.{List, [], ◌∷◌}
use lib.IntN.{ℤ, pos, negsuc}
use Rattle.laws.specs.Lists.{any_below, tabulate, kept}
use Rattle.tables.specs.Table.{Table, table_of}
use Rattle.prepared_table.specs.Work.{sets_aside, prepared_rows, prepared_cols, row_start, work_starts}

of_values : List ℤ → Table
of_values values = table_of 4 (0 ∷ 0 ∷ 1 ∷ 1 ∷ []) (0 ∷ 1 ∷ 0 ∷ 1 ∷ []) values

-- one diagonal value that isn't 0 drops all diagonal entries, a stored zero too
one_value : prepared_rows (of_values (pos 0 ∷ pos 3 ∷ pos 3 ∷ negsuc 1 ∷ [])) ≡ 0 ∷ 1 ∷ []
unfolding of_values any_below kept sets_aside prepared_rows
one_value = refl

one_value_starts : work_starts (of_values (pos 0 ∷ pos 3 ∷ pos 3 ∷ negsuc 1 ∷ [])) 2 ≡ 0 ∷ 1 ∷ 2 ∷ []
unfolding of_values any_below kept tabulate sets_aside prepared_rows row_start work_starts
one_value_starts = refl

-- a diagonal that is all 0 stays, stored zeros included
all_zero : prepared_cols (of_values (pos 0 ∷ pos 3 ∷ pos 3 ∷ pos 0 ∷ [])) ≡ 0 ∷ 1 ∷ 0 ∷ 1 ∷ []
unfolding of_values any_below kept sets_aside prepared_cols
all_zero = refl
