use Rattle.pinned.specs.Pinned.{free_of}
use Rattle.laws.specs.Lists.{over}
use lib.ListN.{length}
use mathlib.Core.Path.{◌≡◌}
use Rattle.pinned.proofs.reduce.free_wagons.Given as goal

abbrev pub invariant-loop-i : goal.invariant-loop-i
invariant-loop-i l = (l.at ≡ length (free_of l.i l.states)) × (l.free ≡ over (free_of l.i l.states) l.initial.free)
