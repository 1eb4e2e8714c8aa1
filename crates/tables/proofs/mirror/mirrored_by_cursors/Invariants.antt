-- `tables::mirror::mirrored_by_cursors` meets its contract.
use mathlib.Core.Path.{◌≡◌}
use mathlib.Core.Bool.{false, not}
use Rattle.laws.specs.Lists.{any_below}
use Rattle.tables.specs.Check.{is_mirror}
use Rattle.tables.specs.Entries.{listed}
use Rattle.tables.proofs.mirror.mirrored_by_cursors.Given as goal

abbrev pub invariant-loop-k : goal.invariant-loop-k
invariant-loop-k l = any_below l.k (λ j. not (any_below l.table.count (is_mirror (listed l.table) j))) ≡ false
