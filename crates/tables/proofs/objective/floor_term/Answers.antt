-- `tables::objective::floor_term` meets its contract.
use Rattle.tables.proofs.Shares.{value_small}
use Rattle.laws.proofs.Integer.{held}
use Rattle.laws.specs.Lists.{elem_z}
use Rattle.tables.specs.Entries.{listed}
use Rattle.tables.proofs.objective.floor_term.Goals as goal

pub entry_least-requires : goal.entry_least-requires
entry_least-requires c = let a = c.args in
    let p = c.requires in
    rw (held (elem_z a.table.values.now a.k) c.entry_least-arg-1.given) (value_small (listed a.table) p.1 a.k p.0)
