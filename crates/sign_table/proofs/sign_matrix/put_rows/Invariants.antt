-- `sign_table::sign_matrix::put_rows` meets its contract.
use Rattle.sign_table.proofs.Built.{RowsInv}
use Rattle.tables.specs.Entries.{listed}
use Rattle.laws.specs.Lists.{elem_z}
use Rattle.sign_table.proofs.sign_matrix.put_rows.Given as goal

abbrev pub invariant-loop-i : goal.invariant-loop-i
invariant-loop-i l = RowsInv l.n (listed l.table) (elem_z l.c) l.k l.at l.i l.initial.to_rows l.initial.to_cols l.initial.to_values l.to_rows l.to_cols l.to_values
