-- Costs known within ranges (02, Note 8): a low and a high whole number per entry and per wagon, and the tables that lie within them. Definitions only.
use Rattle.std.specs.Prelude.{◌≡◌, false, List, ℕ, ◌<◌, ℤ, pos, ◌≤ℤ◌}
use Rattle.laws.specs.Lists.{elem, elem_z}
use Rattle.tables.specs.Table.{value_at, stored_at}
use Rattle.tables.specs.CostTable.{CostTable, cost_table, quadratic, linear}
use Rattle.ranged_finish.specs.declared.LentRanged.{LentRanged}

-- a ranged table as a call is given it: numbers and lent slices, whose lengths may be any
pub record RangedTable : Type 0 where
  pub n : ℕ
  pub count : ℕ
  pub rows : List ℕ
  pub cols : List ℕ
  pub low : List ℤ
  pub high : List ℤ
  pub low_c : List ℤ
  pub high_c : List ℤ

abbrev pub ranged_table : ℕ → ℕ → List ℕ → List ℕ → List ℤ → List ℤ → List ℤ → List ℤ → RangedTable
ranged_table n count rows cols low high low_c high_c =
    record { n = n; count = count; rows = rows; cols = cols; low = low; high = high; low_c = low_c; high_c = high_c }

-- as the code is lent it
abbrev pub ranged_of : LentRanged → RangedTable
ranged_of t = ranged_table t.n t.count t.rows.now t.cols.now t.low.now t.high.now t.low_c.now t.high_c.now

-- the table at these places with other values and other c
abbrev pub with_values : RangedTable → List ℤ → List ℤ → CostTable
with_values t values c = cost_table t.n t.count t.rows t.cols values c

-- the low table, and the high one
abbrev pub low_of : RangedTable → CostTable
low_of t = with_values t t.low t.low_c

abbrev pub high_of : RangedTable → CostTable
high_of t = with_values t t.high t.high_c

-- (H, c) of n wagons lies within the ranges, H mirrored or not: at each place from the low table's value to the high one's, each c likewise. Where no
-- entry stands both ends are 0, and so is H
pub record Within (t : RangedTable) (H : ℕ → ℕ → ℤ) (c : ℕ → ℤ) : Type 0 where
  pub from_low : (i j : ℕ) → i < t.n → j < t.n → value_at (quadratic (low_of t)) i j ≤ℤ H i j
  pub to_high : (i j : ℕ) → i < t.n → j < t.n → H i j ≤ℤ value_at (quadratic (high_of t)) i j
  pub from_low_c : (i : ℕ) → i < t.n → linear (low_of t) i ≤ℤ c i
  pub to_high_c : (i : ℕ) → i < t.n → c i ≤ℤ linear (high_of t) i

-- the same entry by entry, as 02 gives the ranges: each entry's number from its low to its high one, each c likewise, and 0 where no entry stands.
-- On an accepted ranged table the two are one (`each_within`, `within_each`)
pub record WithinEach (t : RangedTable) (H : ℕ → ℕ → ℤ) (c : ℕ → ℤ) : Type 0 where
  pub entry_from : (k : ℕ) → k < t.count → elem_z t.low k ≤ℤ H (elem t.rows k) (elem t.cols k)
  pub entry_to : (k : ℕ) → k < t.count → H (elem t.rows k) (elem t.cols k) ≤ℤ elem_z t.high k
  pub elsewhere : (i j : ℕ) → i < t.n → j < t.n → stored_at (quadratic (low_of t)) i j ≡ false → H i j ≡ pos 0
  pub cost_from : (i : ℕ) → i < t.n → elem_z t.low_c i ≤ℤ c i
  pub cost_to : (i : ℕ) → i < t.n → c i ≤ℤ elem_z t.high_c i
