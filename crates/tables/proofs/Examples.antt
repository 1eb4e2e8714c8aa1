-- 01's ranks, computed.
use mathlib.Core.Path.{◌≡◌, refl}
use mathlib.Core.List.{[], ◌∷◌, map}
use Rattle.tables.specs.Rank.{root_from, least_root, default_rank}

-- for m 1, 2, 3, 8, 9, 128
pub ranks : map default_rank (1 ∷ 2 ∷ 3 ∷ 8 ∷ 9 ∷ 128 ∷ []) ≡ (1 ∷ 2 ∷ 3 ∷ 5 ∷ 6 ∷ 17 ∷ [])
unfolding default_rank least_root root_from
ranks = refl
