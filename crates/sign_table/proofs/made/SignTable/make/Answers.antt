-- `sign_table::made::SignTable::make` meets its contract.
use lib.Dec.{lit<, lit≤}
use native.Mathlib.Omega.{arith}
use Rattle.laws.specs.Lists.{elem_z}
use Rattle.tables.specs.Entries.{listed}
use Rattle.tables.proofs.Checks.{hall_accepted}
use Rattle.sign_table.proofs.Sizes.{hall_convertible}
use Rattle.sign_table.proofs.MadeTables.{made}
use Rattle.sign_table.proofs.made.SignTable.make.Goals as goal

pub sign_matrix-self-requires : goal.sign_matrix-self-requires
sign_matrix-self-requires c = let h = c.args.hall in
    let ok = hall_accepted h.judged in
    (h.table.lent, h.costs_there, hall_convertible (lit< tt) (lit≤ tt) ok, record { rows_room = omega (arith, ok); cols_room = omega (arith, ok); values_room = omega (arith, ok) })

pub returns : goal.returns
returns c = let h = c.args.hall in made h.n (listed h.table) (elem_z h.c.now) c.sign_matrix-self.result (hall_accepted h.judged) c.sign_matrix-self.ensures.0 c.sign_matrix-self.ensures.1 (omega arith) (omega arith) (omega arith)
