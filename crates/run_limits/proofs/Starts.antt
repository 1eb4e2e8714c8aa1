-- A start of few signs and a low rank takes few numbers, and a start that two truth values give takes as many as they say. Assumes nothing.
use Prim.Native.Nat.{ℕ, ◌*◌, ◌≤◌}
use mathlib.Core.Bool.{Bool, true, false}
use mathlib.Core.Path.{◌≡◌, refl, ap, ◌∙◌}
use native.Mathlib.Omega.{arith}
use native.Mathlib.Nat.{mul-le-mul}
use Rattle.limits.specs.Limits.{most_signs, most_rank, most_factor, most_start}
use Rattle.run_limits.specs.declared.StartNumbers.{StartNumbers}
use Rattle.run_limits.specs.Start.{is_signs, draws_follow, start_of, signs_in, draws_in, start_count, start_length}

pub start_low : (kind m rank most : ℕ) → m ≤ most_signs → rank ≤ most_rank → start_length kind m rank most ≤ most_start
unfolding start_length
start_low kind m rank most h k = go (is_signs kind) (draws_follow most rank)
  where
    area : m * rank ≤ most_factor
    area = mul-le-mul h k

    go : (signs drawn : Bool) → start_count signs drawn rank m ≤ most_start
    go false drawn = omega (arith, area)
    go true false = omega arith
    go true true = omega (arith, area)

-- as many numbers as the two truth values say from which the start is
pub counted : {start : StartNumbers} (signs drawn : Bool) (rank m : ℕ) → start ≡ start_of signs drawn
    → start_count (signs_in start) (draws_in start) rank m ≡ start_count signs drawn rank m
counted signs drawn rank m e = ap (λ (s : StartNumbers). start_count (signs_in s) (draws_in s) rank m) e ∙ go signs drawn
  where
    go : (signs drawn : Bool) → start_count (signs_in (start_of signs drawn)) (draws_in (start_of signs drawn)) rank m ≡ start_count signs drawn rank m
    go false drawn = refl
    go true false = refl
    go true true = refl
