-- `exhaustive::check::house_number` meets its contract. Assumes nothing.
use mathlib.Core.Path.{refl, ◌∙◌}
use Rattle.laws.specs.Lists.{elem_z}
use Rattle.tables.specs.Lent.{lent_table}
use Rattle.exhaustive.proofs.Numbers.{number_ext, padded}
use Rattle.exhaustive.proofs.check.house_number.Goals as goal

pub returns : goal.returns
returns c = let h = c.args.hall in c.hall_number.ensures ∙ number_ext h.table.size (lent_table h.table) _ (elem_z h.c.now) (padded h.c.now _ _ c.min-given.ensures refl c.copy.ensures)
