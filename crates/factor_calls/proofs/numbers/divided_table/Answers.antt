-- `factor_calls::numbers::divided_table` meets its contract. It is the number of `dual_variables`, the rank 0 counted as one above the most. Assumes nothing.
use mathlib.Core.Path.{◌∙◌}
use Rattle.factor_calls.proofs.Accepting.{divided_as_dual}
use Rattle.factor_calls.proofs.numbers.divided_table.Goals as goal

pub returns : goal.returns
returns c = record { number = (rw c.given_rank.ensures at c.dual_table.ensures.number) ∙ divided_as_dual _ _ _ _ _ _ _ _; entries = c.dual_table.ensures.entries }
