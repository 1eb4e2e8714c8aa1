-- How many draws a rounding takes (01, "Numbers from the input"): 1 to 1,000, any other count is refused by 19.
use Rattle.std.specs.Prelude.{ℕ, Bool, ◌||◌, ltb, eqb}
use Rattle.limits.specs.Limits.{most_draws}

unfoldable pub bad_draws : ℕ → Bool
bad_draws count = eqb count 0 || ltb most_draws count
