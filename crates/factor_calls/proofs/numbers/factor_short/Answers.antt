-- `factor_calls::numbers::factor_short` meets its contract: once m and the rank passed, their product fits. Assumes nothing.
use mathlib.Core.Path.{sym, ◌∙◌}
use native.Mathlib.Nat.{mul-le-mul}
use native.Mathlib.Omega.{arith}
use borrow.Author.Tests.{ltb-false}
use Prim.Native.Nat.{◌≤◌}
use Rattle.limits.specs.Limits.{most_signs}
use Rattle.table_calls.proofs.Accepting.{signs_parts}
use Rattle.factor_calls.proofs.numbers.factor_short.Goals as goal

pub rank_meant-requires : goal.rank_meant-requires
rank_meant-requires c = (λ e. (signs_parts c.args.m (sym c.bad_signs.ensures ∙ c.if-bad_signs.false)).1, ltb-false _ _ (sym c.bad_rank.ensures ∙ c.if-bad_rank.false))

pub overflow_mul-result : goal.overflow_mul-result
overflow_mul-result c = let s : c.args.m ≤ most_signs = (signs_parts c.args.m (sym c.bad_signs.ensures ∙ c.if-bad_signs.false)).1 in omega (arith, mul-le-mul s c.rank_meant.ensures.1)
