-- `run_limits::is_momentum` meets its contract: by the bits of 1.0 and of −0.0. Assumes nothing.
use mathlib.Core.Path.{sym, ap, ◌∙◌, subst}
use lib.Dec.{T, eqb}
use Prim.Native.Nat.{ℕ, ◌<◌, ◌≤◌}
use borrow.Author.Tests.{lt-ltb}
use Rattle.run_limits.proofs.MomentumBits.{low_momentum, high_momentum}
use Rattle.run_limits.proofs.is_momentum.Goals as goal

pub returns-then-bits-lt4607182418800017408 : goal.returns-then-bits-lt4607182418800017408
returns-then-bits-lt4607182418800017408 c = lt-ltb _ _ c.if-bits-lt4607182418800017408.true ∙ sym (low_momentum _ (subst (λ (x : ℕ). x < 0x3ff0_0000_0000_0000) c.bits_of-bits.ensures c.if-bits-lt4607182418800017408.true))

pub returns-else-bits-lt4607182418800017408 : goal.returns-else-bits-lt4607182418800017408
returns-else-bits-lt4607182418800017408 c = ap (λ (x : ℕ). eqb x 0x8000_0000_0000_0000) c.bits_of-bits.ensures
    ∙ high_momentum _ (subst T (sym c.well_formed.0.1) tt) (subst (λ (x : ℕ). 0x3ff0_0000_0000_0000 ≤ x) c.bits_of-bits.ensures c.if-bits-lt4607182418800017408.false)
