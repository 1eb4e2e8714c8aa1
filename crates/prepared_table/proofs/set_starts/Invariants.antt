-- `prepared_table::set_starts` meets its contract. The first i starts are written. Assumes nothing.
use mathlib.Core.Path.{◌≡◌}
use Prim.Native.Nat.{◌≤◌}
use Rattle.laws.specs.Lists.{over, tabulate}
use Rattle.prepared_table.specs.Work.{row_start}
use Rattle.prepared_table.proofs.set_starts.Given as goal

abbrev pub invariant-loop-i : goal.invariant-loop-i
invariant-loop-i l = (l.from ≤ row_start l.rows l.i) × (l.starts ≡ over (tabulate (row_start l.rows) l.i) l.initial.starts)
