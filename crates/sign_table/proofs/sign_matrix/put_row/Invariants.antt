-- `sign_table::sign_matrix::put_row` meets its contract.
use Rattle.sign_table.proofs.Built.{RowInv}
use Rattle.tables.specs.Entries.{listed}
use Rattle.laws.specs.Lists.{elem_z}
use Prim.Native.Nat.{◌-◌}
use Rattle.sign_table.proofs.sign_matrix.put_row.Given as goal

abbrev pub invariant-loop-j : goal.invariant-loop-j
invariant-loop-j l = RowInv l.n (listed l.table) (elem_z l.c) l.i l.len l.k l.at l.from l.initial.to_rows l.initial.to_cols l.initial.to_values l.to_rows l.to_cols l.to_values

abbrev pub decreases-loop-j : goal.decreases-loop-j
decreases-loop-j l = l.n - l.from
