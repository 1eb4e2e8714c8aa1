use Rattle.pinned.specs.Pinned.{held_byte}
use Rattle.laws.specs.Lists.{fill}
use lib.ListN.{replicate}
use Rattle.limits.specs.Limits.{most_wagons}
use mathlib.Core.Path.{◌≡◌}
use Rattle.pinned.proofs.reduce.held_choice.Given as goal

abbrev pub invariant-loop-i : goal.invariant-loop-i
invariant-loop-i l = l.held ≡ fill (held_byte l.states) l.i (replicate most_wagons 0)
