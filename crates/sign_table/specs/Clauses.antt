-- What the functions that write the sign table ask and promise; h is the table of H as lent.
use Rattle.std.specs.Prelude.{List, ◌≡◌, ℕ, suc, ◌+◌, ◌≤◌, ◌<◌, length, ℤ}
use Rattle.laws.specs.Sum.{sum}
use Rattle.laws.specs.Lists.{elem_z}
use Rattle.tables.specs.Table.{Table, table_of, Lent}
use Rattle.sign_table.specs.SignTable.{row_places, places, kept_of, sign_of}
use Rattle.sign_table.specs.Walk.{At, row_total, Wrote, Room, Convertible}

-- (H, c) as lent, and room for as many entries from `at` on
abbrev pub Fits : ℕ → ℕ → List ℕ → List ℕ → List ℤ → List ℤ → ℕ → ℕ → List ℕ → List ℕ → List ℤ → Type 0
Fits n count rows cols values c at room toRows toCols toValues =
    Lent count rows cols values × (n ≤ length c) × Convertible n (table_of count rows cols values) (elem_z c) × Room at room toRows toCols toValues

-- the same, for the first `columns` columns of row i, whose entries begin at `start`
abbrev pub RowFits : ℕ → ℕ → List ℕ → List ℕ → List ℤ → List ℤ → ℕ → ℕ → ℕ → ℕ → List ℕ → List ℕ → List ℤ → Type 0
RowFits n count rows cols values c i start columns at toRows toCols toValues =
    Lent count rows cols values × (n ≤ length c) × Convertible n (table_of count rows cols values) (elem_z c) × (i < n) × At (table_of count rows cols values) start i 0
    × Room at (length (row_places (kept_of n (table_of count rows cols values) (elem_z c)) i 0 columns)) toRows toCols toValues

-- the rows of H, whole; the anchor's row up to its diagonal
abbrev pub wagon_rows : ℕ → Table → (ℕ → ℤ) → List (ℕ × ℕ)
wagon_rows n h c = places (kept_of n h c) (suc n) n

abbrev pub anchor_row : ℕ → Table → (ℕ → ℤ) → List (ℕ × ℕ)
anchor_row n h c = row_places (kept_of n h c) n 0 n

-- the sign table's entries at these places stand from `at` on, `end` behind them
abbrev pub Put : ℕ → Table → (ℕ → ℤ) → List (ℕ × ℕ) → ℕ → List ℕ → List ℕ → List ℤ → List ℕ → List ℕ → List ℤ → ℕ → Type 0
Put n h c which at rows₀ cols₀ values₀ rows cols values end = Wrote (sign_of n h c) which at rows₀ cols₀ values₀ rows cols values × (end ≡ at + length which)

-- the same from the first place on: `count` entries
abbrev pub PutAll : ℕ → Table → (ℕ → ℤ) → List (ℕ × ℕ) → List ℕ → List ℕ → List ℤ → List ℕ → List ℕ → List ℤ → ℕ → Type 0
PutAll n h c which rows₀ cols₀ values₀ rows cols values count = Wrote (sign_of n h c) which 0 rows₀ cols₀ values₀ rows cols values × (count ≡ length which)

-- row i whole, and the next row's first entry
abbrev pub RowPut : ℕ → Table → (ℕ → ℤ) → ℕ → ℕ → List ℕ → List ℕ → List ℤ → List ℕ → List ℕ → List ℤ → ℕ → ℕ → Type 0
RowPut n h c i at rows₀ cols₀ values₀ rows cols values end next =
    Wrote (sign_of n h c) (row_places (kept_of n h c) i 0 (suc n)) at rows₀ cols₀ values₀ rows cols values
    × (end ≡ at + length (row_places (kept_of n h c) i 0 (suc n))) × At h next (suc i) 0

-- the anchor's row up to its diagonal, and the sum of all rows
abbrev pub AnchorPut : ℕ → Table → (ℕ → ℤ) → ℕ → List ℕ → List ℕ → List ℤ → List ℕ → List ℕ → List ℤ → ℕ → ℤ → Type 0
AnchorPut n h c at rows₀ cols₀ values₀ rows cols values end whole =
    Wrote (sign_of n h c) (anchor_row n h c) at rows₀ cols₀ values₀ rows cols values × (end ≡ at + length (anchor_row n h c)) × (whole ≡ sum n (row_total h c))
