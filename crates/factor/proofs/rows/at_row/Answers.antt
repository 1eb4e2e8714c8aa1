-- `factor::rows::at_row` meets its contract. The part that comes back is what f left of the row, put in its place. Assumes nothing.
use mathlib.Core.Path.{refl}
use native.Mathlib.Nat.{add-sub_cancel_left}
use Rattle.factor.proofs.rows.at_row.Goals as goal

pub returns : goal.returns
returns g c = (c.f.new.arg2, record { shown = _; shows = rw add-sub_cancel_left refl; left = _; met = c.f.ensures; leaves = refl }, rw add-sub_cancel_left refl)
