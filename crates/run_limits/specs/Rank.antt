-- The rank that a given one means (01, "Roots, rows, rules").
use Rattle.std.specs.Prelude.{ℕ, zero, suc}
use Rattle.tables.specs.Rank.{default_rank}

-- for m signs: as given; 0 means the default rank
unfoldable pub rank_meant : ℕ → ℕ → ℕ
rank_meant m zero = default_rank m
rank_meant m (suc r) = suc r
