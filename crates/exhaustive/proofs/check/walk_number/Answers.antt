-- `exhaustive::check::walk_number` meets its contract. Assumes nothing.
use mathlib.Core.Path.{sym, ◌∙◌}
use Rattle.exhaustive.proofs.Numbers.{slices_lent}
use Rattle.exhaustive.proofs.check.walk_number.Goals as goal

pub house_number-requires : goal.house_number-requires
house_number-requires c = let h = c.args.hall in let t = h.table in slices_lent t.size t.count t.rows.now t.cols.now t.values.now h.c.now c.args.b (sym c.slices_short.ensures ∙ c.if-slices_short.false)
