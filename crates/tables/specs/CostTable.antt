-- (H, c) as a call is given it: numbers and lent slices, whose lengths may be any.
use Rattle.std.specs.Prelude.{ℕ, List, ℤ}
use Rattle.laws.specs.Lists.{elem_z}
use Rattle.tables.specs.Table.{Table, table_of}

pub record CostTable : Type 0 where
  pub n : ℕ
  pub count : ℕ
  pub rows : List ℕ
  pub cols : List ℕ
  pub values : List ℤ
  pub c : List ℤ

abbrev pub cost_table : ℕ → ℕ → List ℕ → List ℕ → List ℤ → List ℤ → CostTable
cost_table n count rows cols values c = record { n = n; count = count; rows = rows; cols = cols; values = values; c = c }

-- H, and c
abbrev pub quadratic : CostTable → Table
quadratic t = table_of t.count t.rows t.cols t.values

abbrev pub linear : CostTable → ℕ → ℤ
linear t = elem_z t.c
