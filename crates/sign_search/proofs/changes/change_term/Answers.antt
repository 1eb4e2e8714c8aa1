use Rattle.laws.specs.Lists.{elem_z}
use Rattle.laws.proofs.Integer.{held}
use Rattle.tables.proofs.Shares.{value_small}
use Rattle.tables.specs.Entries.{listed}
use Rattle.sign_search.proofs.changes.change_term.Goals as goal

pub entry_change-requires : goal.entry_change-requires
entry_change-requires c = let a = c.args in rw (held (elem_z a.table.values.now a.k) c.entry_change-arg-1.given) (value_small (listed a.table) c.requires.1.small a.k c.requires.0)
