-- `tables::mirror::mirrored_by_cursors` meets its contract.
use mathlib.Core.Path.{sym, ◌∙◌, ap}
use mathlib.Core.Bool.{not}
use Rattle.laws.proofs.Any.{below_at, below_passed}
use Rattle.tables.proofs.mirror.mirrored_by_cursors.Goals as goal

pub loop-k-preserved : goal.loop-k-preserved
loop-k-preserved c = below_passed _ _ c.loop-k.invariant (ap not (below_at _ _ _ c.if-table-p.false (sym c.is_mirror.ensures ∙ c.if-not-is_mirror.false)))
