-- `several_runs::numbers::turn_number` meets its contract. Assumes nothing.
use mathlib.Core.Path.{sym, ◌∙◌}
use Rattle.several_runs.proofs.Counted.{count_few}
use Rattle.several_runs.proofs.numbers.turn_number.Goals as goal

pub members_number-requires : goal.members_number-requires
members_number-requires c = count_few _ (sym c.bad_count.ensures ∙ c.if-bad_count.false)
