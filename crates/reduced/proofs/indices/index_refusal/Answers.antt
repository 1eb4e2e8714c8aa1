use native.Mathlib.Omega.{arith}
use Rattle.reduced.proofs.Distinct.{outside_within, within_up}
use mathlib.Core.Path.{sym, ◌∙◌}
use Rattle.reduced.proofs.indices.index_refusal.Goals as goal

pub any_twice-requires : goal.any_twice-requires
any_twice-requires c = within_up (omega arith) (outside_within c.args.indices.size c.args.indices.variable_map.now (sym c.any_outside.ensures ∙ c.if-any_outside.false))
