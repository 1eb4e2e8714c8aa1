-- The table of a call as the float work takes it (000, `separate_diagonal`): where one diagonal value isn't 0, all diagonal entries are set aside;
-- where all of them are 0 the table is used as it is, stored zeros included. Values are eighths, and each becomes a double. Definitions only.
use Rattle.std.specs.Prelude.{ℕ, zero, suc, ◌+◌, Bool, true, false, not, List, [], ◌∷◌, eqb, ltb, nat_abs, Float, replicate}
use Rattle.laws.specs.Turns.{up_to}
use Rattle.laws.specs.Lists.{any_below, tabulate, kept, put_if}
use Rattle.ieee.specs.Floats.{zero64, eighth_of}
use Rattle.factor.specs.Norms.{sum_of}
use Rattle.tables.specs.Table.{Table}

-- entry e lies on the diagonal
abbrev pub on_diagonal : Table → ℕ → Bool
on_diagonal t e = eqb (t.row e) (t.column e)

-- a diagonal value that isn't 0: by whether it lies there, and whether it is 0
abbrev pub set_by : Bool → Bool → Bool
set_by true nothing = not nothing
set_by false nothing = false

unfoldable pub sets_aside : Table → Bool
sets_aside t = any_below t.count (λ e. set_by (on_diagonal t e) (eqb (nat_abs (t.value e)) 0))

-- an entry stays unless the diagonal is set aside and it lies there
abbrev pub stays_by : Bool → Bool → Bool
stays_by true diagonal = not diagonal
stays_by false diagonal = true

abbrev pub stays : Bool → (ℕ → ℕ) → (ℕ → ℕ) → ℕ → Bool
stays aside row column e = stays_by aside (eqb (row e) (column e))

-- what f makes of the entries that stay, in order
abbrev pub staying : {A : Type 0} → Table → (ℕ → A) → List A
staying t f = kept (stays (sets_aside t) t.row t.column) f t.count

-- their rows, columns and doubles
unfoldable pub prepared_rows : Table → List ℕ
prepared_rows t = staying t t.row

unfoldable pub prepared_cols : Table → List ℕ
prepared_cols t = staying t t.column

unfoldable pub prepared_values : Table → List Float
prepared_values t = staying t (λ e. eighth_of (t.value e))

-- one place further, where the entry's row is below
abbrev pub start_past : Bool → ℕ → ℕ
start_past true n = suc n
start_past false n = zero

-- row i starts at the first entry whose row is at least i
unfoldable pub row_start : List ℕ → ℕ → ℕ
row_start [] i = zero
row_start (r ∷ rows) i = start_past (ltb r i) (row_start rows i)

-- where each of m rows starts, and where the last ends
abbrev pub starts_of : List ℕ → ℕ → List ℕ
starts_of rows m = tabulate (row_start rows) (m + 1)

unfoldable pub work_starts : Table → ℕ → List ℕ
work_starts t m = starts_of (prepared_rows t) m

-- the diagonal of m values: 0.0 where no entry is stored
abbrev pub diagonal_turn : Table → ℕ → List Float → List Float
diagonal_turn t e d = put_if (on_diagonal t e) (t.row e) (eighth_of (t.value e)) d

unfoldable pub diagonal_of : Table → ℕ → List Float
diagonal_of t m = up_to (diagonal_turn t) t.count (replicate m zero64)

unfoldable pub diagonal_sum : Table → ℕ → Float
diagonal_sum t m = sum_of (diagonal_of t m)
