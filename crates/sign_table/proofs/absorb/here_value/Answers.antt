-- `sign_table::absorb::here_value` meets its contract.
use Rattle.sign_table.proofs.Built.{here_fits}
use Rattle.tables.specs.Entries.{listed}
use Rattle.laws.proofs.Integer.{held}
use Rattle.laws.specs.Lists.{elem_z}
use mir.Facts.{to_z-of_z}
use Rattle.sign_table.proofs.absorb.here_value.Goals as goal

pub overflow_add-result : goal.overflow_add-result
overflow_add-result c = let a = c.args in
    let p = c.requires in
    rw (held c.stored_value-stored.result c.stored_value-stored.type_inv, held c.linear_value.result c.linear_value.type_inv, c.stored_value-stored.ensures, c.linear_value.ensures) (here_fits (listed a.table) (elem_z a.c.now) a.i a.j a.k p.2 p.1)

pub returns : goal.returns
returns c = let a = c.args in
    let p = c.requires in
    rw (held c.stored_value-stored.result c.stored_value-stored.type_inv, held c.linear_value.result c.linear_value.type_inv, c.stored_value-stored.ensures, c.linear_value.ensures) (to_z-of_z (here_fits (listed a.table) (elem_z a.c.now) a.i a.j a.k p.2 p.1))
