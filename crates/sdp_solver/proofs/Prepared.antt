-- The table of a call that `call_work` made, and what sweeps and objective ask of it. Assumes nothing.
use Prim.Native.Nat.{suc, ◌+◌}
use mathlib.Core.Path.{◌≡◌}
use native.Mathlib.Numerals.{add-one}
use lib.ListN.{take}
use Rattle.limits.specs.Limits.{most_signs, most_sign_entries, most_sign_magnitude}
use Rattle.tables.specs.Table.{InRange}
use Rattle.tables.specs.Check.{Accepted}
use Rattle.tables.specs.CostTable.{CostTable}
use Rattle.sign_table.proofs.Theorems.{hall_sign_table}
use Rattle.prepared_table.specs.declared.made.PreparedTable.{PreparedTable}
use Rattle.prepared_table.specs.Made.{MadeOf}
use Rattle.run_sweep.specs.Work.{work, work_of, sign_table_of, call_work}
use Rattle.tables.specs.declared.judged.JudgedHall.{JudgedHall}
use Rattle.tables.proofs.Checks.{hall_accepted}
use Rattle.sdp_solver.specs.Usable.{Usable, costs_in}

-- what is known of a hall that was judged
pub usable : (h : JudgedHall) → Usable (costs_in h)
usable h = record { slices = h.table.lent; costs = h.costs_there; hall = hall_accepted h.judged }

module _ {t : CostTable} (u : Usable t) where
  accepted : Accepted most_signs most_sign_entries most_sign_magnitude (suc t.n) (sign_table_of t)
  accepted = hall_sign_table u.hall

  pub in_range : InRange (t.n + 1) (sign_table_of t)
  in_range = rw (add-one t.n) accepted.in_range

pub made_work : (t : CostTable) {s : PreparedTable} → MadeOf (sign_table_of t) (t.n + 1) s
    → work (take s.count s.rows) (take s.count s.cols) (take s.count s.values) (take (s.size + 1) s.starts) ≡ call_work t
unfolding call_work work_of
made_work t k = rw (k.rows_are, k.cols_are, k.values_are, k.starts_are)
