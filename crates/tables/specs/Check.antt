-- The numbers 13, 14, 15, 16 of a table and 31 of its slices (01, "Numbers from the input" and "Numbers from the state"), with the limits
-- as parameters. The checks of `check.rt` take those of 01; `hall_number_within` and `table_number_within` take any.
use Rattle.std.specs.Prelude.{Bool, true, false, cond, ◌&&◌, not, [], ◌∷◌, ℕ, ◌+◌, ◌*◌, ◌-◌, ◌≤◌, ◌<◌, eqb, leb, ltb, length, ℤ, pos, negsuc, nat_abs}
use Rattle.laws.specs.Sum.{total}
use Rattle.laws.specs.Lists.{any_below}
use Rattle.laws.specs.Refusal.{◌if◌, first, any_of, short}
use Rattle.limits.specs.Limits.{most_signs, most_wagons, most_entries}
use Rattle.tables.specs.Table.{Table, InRange, Rising, Mirrored, magnitude_of}
use Rattle.tables.specs.CostTable.{CostTable}

-- 13: n, m or the entry count out of its limits
unfoldable pub bad_size : ℕ → ℕ → ℕ → ℕ → ℕ → Bool
bad_size least most most_entries size count = any_of (ltb size least ∷ ltb most size ∷ ltb most_entries count ∷ [])

-- 13 of m alone
unfoldable pub bad_signs : ℕ → Bool
bad_signs m = any_of (ltb m 1 ∷ ltb most_signs m ∷ [])

-- what a call on signs alone refuses: 31, else 13 of m
abbrev pub signs_number : Bool → ℕ → ℕ
signs_number short m = first (31 if short ∷ 13 if bad_signs m ∷ [])

-- (i, j) stands before (k, l): by row, then by column
unfoldable pub before : ℕ → ℕ → ℕ → ℕ → Bool
before i j k l = cond (ltb i k) true (cond (eqb i k) (ltb j l) false)

-- 14: some entry out of range or order: its row or column is not below the size, or it doesn't stand after the entry before
unfoldable pub bad_entry : ℕ → (ℕ → ℕ) → (ℕ → ℕ) → ℕ → Bool
bad_entry size row column k =
    any_of
    (leb size (row k)
    ∷ leb size (column k)
    ∷ (ltb 0 k && not (before (row (k - 1)) (column (k - 1)) (row k) (column k)))
    ∷ [])

unfoldable pub bad_order : ℕ → (ℕ → ℕ) → (ℕ → ℕ) → ℕ → Bool
bad_order size row column count = any_below count (bad_entry size row column)

-- 15: some entry whose mirror is absent or unequal
abbrev pub eq_z : ℤ → ℤ → Bool
eq_z (pos a) (pos b) = eqb a b
eq_z (pos a) (negsuc b) = false
eq_z (negsuc a) (pos b) = false
eq_z (negsuc a) (negsuc b) = eqb a b

abbrev pub is_mirror : Table → ℕ → ℕ → Bool
is_mirror t k j = (eqb (t.row j) (t.column k) && eqb (t.column j) (t.row k)) && eq_z (t.value j) (t.value k)

unfoldable pub unmirrored : Table → Bool
unmirrored t = any_below t.count (λ k. not (any_below t.count (is_mirror t k)))

-- 16: the magnitude above its limit: of (H, c) the sum of |H_ij| over stored entries, plus twice the sum of |c_i|; of a sign table the
-- sum of its absolute values
abbrev pub hall_magnitude : ℕ → Table → (ℕ → ℤ) → ℕ
hall_magnitude n h c = magnitude_of h + 2 * total n (λ i. nat_abs (c i))

-- the first of 13 to 15
unfoldable pub placed_number : ℕ → ℕ → ℕ → ℕ → Table → ℕ
placed_number least most most_entries size t =
    first
    (13 if bad_size least most most_entries size t.count
    ∷ 14 if bad_order size t.row t.column t.count
    ∷ 15 if unmirrored t
    ∷ [])

-- the first number of (H, c), and of a sign table of m signs given directly
unfoldable pub hall_number : ℕ → ℕ → ℕ → ℕ → Table → (ℕ → ℤ) → ℕ
hall_number most_wagons most_entries limit n h c =
    first
    (13 if bad_size 0 most_wagons most_entries n h.count
    ∷ 14 if bad_order n h.row h.column h.count
    ∷ 15 if unmirrored h
    ∷ 16 if ltb limit (hall_magnitude n h c)
    ∷ [])

unfoldable pub table_number : ℕ → ℕ → ℕ → ℕ → Table → ℕ
table_number most_signs most_entries limit m t =
    first
    (13 if bad_size 1 most_signs most_entries m t.count
    ∷ 14 if bad_order m t.row t.column t.count
    ∷ 15 if unmirrored t
    ∷ 16 if ltb limit (magnitude_of t)
    ∷ [])

-- 31: one of a table's slices, of these lengths, is shorter than its entry count, unless that is itself refused
unfoldable pub short_table : ℕ → ℕ → ℕ → ℕ → ℕ → Bool
short_table most_entries count rows cols values =
    any_of
    (short (ltb most_entries count) count rows
    ∷ short (ltb most_entries count) count cols
    ∷ short (ltb most_entries count) count values
    ∷ [])

-- 31: one of the slices of (H, c): entries rest on the count, c on n
unfoldable pub short_hall : CostTable → Bool
short_hall t =
    any_of
    (short_table most_entries t.count (length t.rows) (length t.cols) (length t.values)
    ∷ short (ltb most_wagons t.n) t.n (length t.c)
    ∷ [])

-- ---- what is accepted

-- (H, c)
pub record Hall (most_wagons most_entries limit n : ℕ) (h : Table) (c : ℕ → ℤ) : Type 0 where
  pub wagons : n ≤ most_wagons
  pub entries : h.count ≤ most_entries
  pub in_range : InRange n h
  pub rising : Rising h
  pub mirrored : Mirrored h
  pub magnitude : hall_magnitude n h c ≤ limit

-- a sign table
pub record Accepted (most_signs most_entries limit m : ℕ) (t : Table) : Type 0 where
  pub some : 1 ≤ m
  pub signs : m ≤ most_signs
  pub entries : t.count ≤ most_entries
  pub in_range : InRange m t
  pub rising : Rising t
  pub mirrored : Mirrored t
  pub magnitude : magnitude_of t ≤ limit

-- ---- the search of a mirror: row and column as one number, which rises with (row, column) for columns below 2^16

abbrev pub place_key : (ℕ → ℕ) → (ℕ → ℕ) → ℕ → ℕ
place_key row column k = row k * 65536 + column k

pub record Placed (row column : ℕ → ℕ) (count : ℕ) : Type 0 where
  pub rows_low : (k : ℕ) → k < count → row k < 65536
  pub cols_low : (k : ℕ) → k < count → column k < 65536
  pub climbs : (k l : ℕ) → k < l → l < count → place_key row column k < place_key row column l
