-- `factor_calls::numbers::draws_short` meets its contract: once none is refused, rank times draws fits. Assumes nothing.
use mathlib.Core.Path.{sym, ◌∙◌}
use native.Mathlib.Nat.{mul-le-mul}
use native.Mathlib.Omega.{arith}
use Rattle.factor_calls.proofs.Accepting.{draws_good}
use Rattle.factor_calls.proofs.numbers.draws_short.Goals as goal

pub rank_meant-requires : goal.rank_meant-requires
rank_meant-requires c = let g = draws_good c.args.m c.args.rank c.args.draws.count (sym c.draws_refused.ensures ∙ c.if-draws_refused.false) in (g.0, g.1)

pub overflow_mul-result : goal.overflow_mul-result
overflow_mul-result c = omega (arith, mul-le-mul (draws_good c.args.m c.args.rank c.args.draws.count (sym c.draws_refused.ensures ∙ c.if-draws_refused.false)).2 c.rank_meant.ensures.1)
