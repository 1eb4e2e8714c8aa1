-- The rank that is meant: the given one or the default, at least 1, and at most 32 where the given one is. Assumes nothing.
use Prim.Native.Nat.{ℕ, zero, suc, ◌+◌, ◌*◌, ◌<◌, ◌≤◌, min, max}
use mathlib.Core.Path.{◌≡◌, refl}
use native.Mathlib.Omega.{arith}
use native.Mathlib.Decide.{dec_lt}
use Rattle.limits.specs.Limits.{most_signs, most_rank}
use Rattle.tables.specs.Rank.{least_root, default_rank}
use Rattle.tables.proofs.Ranks.{root_least}
use Rattle.run_limits.specs.Rank.{rank_meant}

-- 31·31 reaches 2m for m up to 480
pub default_low : (m : ℕ) → m ≤ most_signs → default_rank m ≤ most_rank
unfolding default_rank
default_low m h = go (dec_lt 31 (least_root (2 * m)))
  where
    go : Dec (31 < least_root (2 * m)) → max 1 (min m (least_root (2 * m) + 1)) ≤ most_rank
    go (yes l) = absurd (omega (arith, root_least (2 * m) 31 l))
    go (no l) = omega arith

pub meant_default : (m : ℕ) {rank : ℕ} → rank ≡ 0 → rank_meant m rank ≡ default_rank m
unfolding rank_meant
meant_default m e = rw e

pub meant_given : (m rank : ℕ) → (rank ≡ 0 → ⊥) → rank_meant m rank ≡ rank
unfolding rank_meant
meant_given m zero n = absurd (n refl)
meant_given m (suc r) n = refl

pub meant_low : (m rank : ℕ) → m ≤ most_signs → rank ≤ most_rank → rank_meant m rank ≤ most_rank
unfolding rank_meant
meant_low m zero h l = default_low m h
meant_low m (suc r) h l = l

pub meant_some : (m rank : ℕ) → 1 ≤ rank_meant m rank
unfolding rank_meant default_rank
meant_some m zero = omega arith
meant_some m (suc r) = omega arith

-- a given rank is no more than what it means
pub given_under : (m rank : ℕ) → rank ≤ rank_meant m rank
unfolding rank_meant
given_under m zero = omega arith
given_under m (suc r) = omega arith
