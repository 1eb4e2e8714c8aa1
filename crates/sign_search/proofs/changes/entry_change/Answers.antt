-- `entry_change` meets its contract, on the diagonal and off it.
-- Assumes nothing.
use mathlib.Core.Path.{◌∙◌}
use mir.Facts.{to_z-of_z}
use Rattle.laws.proofs.Integer.{held}
use Rattle.sign_search.proofs.ChangeLaws.{off_diagonal}
use Rattle.sign_search.proofs.changes.entry_change.Goals as goal

pub returns : goal.returns
returns c = let a = c.args in
    held _ c.weighed.type_inv ∙ (rw (to_z-of_z c.ranges.value) at c.weighed.ensures) ∙ off_diagonal a.i a.j a.x a.y a.value c.if-i-j.false
