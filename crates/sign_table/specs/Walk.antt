-- How the conversion walks the entries of (H, c) and writes those of the sign table.
use Rattle.std.specs.Prelude.{Bool, true, false, Option, Some, None, cond, ◌≡◌, ℕ, ◌+◌, ◌*◌, ◌^◌, ◌<◌, ◌≤◌, eqb, leb, ltb, ℤ, pos, nat_abs, ◌+ℤ◌, ◌*ℤ◌}
use Rattle.laws.specs.Sum.{sum, total, only}
use Rattle.tables.specs.Table.{Table, Before, InRange, Rising, magnitude_of}
use Rattle.sign_table.specs.SignTable.{is_zero}
pub use Rattle.tables.specs.Stored.{Wrote, Room}

-- the entries before k stand before (i, j), and those from k on do not
pub record At (h : Table) (k i j : ℕ) : Type 0 where
  pub inside : k ≤ h.count
  pub behind : (l : ℕ) → l < k → Before (h.row l) (h.column l) i j
  pub ahead : (l : ℕ) → k ≤ l → l < h.count → Before (h.row l) (h.column l) i j → ⊥

-- entry k is there, in row i; at (i, j)
abbrev pub in_row : ℕ → (ℕ → ℕ) → ℕ → ℕ → Bool
in_row count row i k = cond (ltb k count) (eqb (row k) i) false

abbrev pub is_here : ℕ → (ℕ → ℕ) → (ℕ → ℕ) → ℕ → ℕ → ℕ → Bool
is_here count row column i j k = cond (in_row count row i k) (eqb (column k) j) false

-- the column of entry k, if it is of row i
unfoldable pub stored_column : ℕ → (ℕ → ℕ) → (ℕ → ℕ) → ℕ → ℕ → Option ℕ
stored_column count row column i k = cond (in_row count row i k) (Some (column k)) None

-- column i comes first: the other is behind it, or there is none
abbrev pub comes_first : ℕ → Option ℕ → Bool
comes_first i None = true
comes_first i (Some j) = ltb i j

-- the next kept column of row i, from j on, where entry k is the next, if there is one
unfoldable pub next_column : ℕ → (ℕ → ℕ) → (ℕ → ℕ) → (ℕ → ℤ) → ℕ → ℕ → ℕ → Option ℕ
next_column count row column c i j k =
    let stored = stored_column count row column i k in
    cond (is_zero (c i)) stored (cond (leb j i) (cond (comes_first i stored) (Some i) stored) stored)

-- the absorbed value at (i, j), and the entry after
abbrev pub here_value : Table → (ℕ → ℤ) → ℕ → ℕ → ℕ → ℤ
here_value h c i j k = cond (is_here h.count h.row h.column i j k) (h.value k) (pos 0) +ℤ only i j (pos 2 *ℤ c i)

abbrev pub after_here : ℕ → (ℕ → ℕ) → (ℕ → ℕ) → ℕ → ℕ → ℕ → ℕ
after_here count row column i j k = cond (is_here count row column i j k) (k + 1) k

-- the sum of row i of the absorbed table
abbrev pub row_term : (ℕ → ℕ) → (ℕ → ℤ) → ℕ → ℕ → ℤ
row_term row value i l = only (row l) i (value l)

abbrev pub row_total : Table → (ℕ → ℤ) → ℕ → ℤ
row_total h c i = sum h.count (row_term h.row h.value i) +ℤ pos 2 *ℤ c i

-- the entries before k stand in rows up to i, and those from k on in rows from i on
pub record RowAt (count : ℕ) (row : ℕ → ℕ) (k i : ℕ) : Type 0 where
  pub inside : k ≤ count
  pub behind : (l : ℕ) → l < k → row l ≤ i
  pub ahead : (l : ℕ) → k ≤ l → l < count → i ≤ row l

-- a row's sum, and the entry after the row
pub record RowSummed (count : ℕ) (row : ℕ → ℕ) (value : ℕ → ℤ) (linear : ℤ) (i next : ℕ) (total : ℤ) : Type 0 where
  pub is : total ≡ sum next (row_term row value i) +ℤ pos 2 *ℤ linear
  pub at : RowAt count row next i
  pub past : in_row count row i next ≡ false

-- what the conversion asks of (H, c): indices that u16 holds, entries in range and order, sums that i64 holds
pub record Convertible (n : ℕ) (h : Table) (c : ℕ → ℤ) : Type 0 where
  pub low : n < 65536
  pub in_range : InRange n h
  pub rising : Rising h
  pub small : magnitude_of h + 2 * total n (λ i. nat_abs (c i)) ≤ 2 ^ 60
