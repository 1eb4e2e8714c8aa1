-- `sign_table::sign_matrix::put_last_row` meets its contract.
use Rattle.sign_table.proofs.Built.{LastInv}
use Rattle.tables.specs.Entries.{listed}
use Rattle.laws.specs.Lists.{elem_z}
use mathlib.Core.Path.{◌≡◌}
use Prim.Native.Nat.{ℕ}
use mir.Syntax.{w64}
use mir.Val.{to_z}
use Rattle.sign_table.proofs.sign_matrix.put_last_row.Given as goal

abbrev pub invariant-loop-i : goal.invariant-loop-i
invariant-loop-i l = (t : ℕ) → to_z w64 t ≡ l.total → LastInv l.n (listed l.table) (elem_z l.c) l.len l.k l.at l.i t l.initial.to_rows l.initial.to_cols l.initial.to_values l.to_rows l.to_cols l.to_values
