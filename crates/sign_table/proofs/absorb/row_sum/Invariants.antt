-- `sign_table::absorb::row_sum` meets its contract.
use Rattle.sign_table.specs.Walk.{RowAt, row_term}
use Rattle.laws.specs.Lists.{elem, elem_z}
use Rattle.laws.specs.Sum as S
use mathlib.Core.Path.{◌≡◌}
use Rattle.sign_table.proofs.absorb.row_sum.Given as goal

abbrev pub invariant-loop-k : goal.invariant-loop-k
invariant-loop-k l = RowAt l.table.count (elem l.table.rows.now) l.k l.i × (l.sum ≡ S.sum l.k (row_term (elem l.table.rows.now) (elem_z l.table.values.now) l.i)) × (l.next ≡ l.table.count)
