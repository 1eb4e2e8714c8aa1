use Rattle.pinned.specs.Pinned.{free_of, place_of}
use Rattle.laws.specs.Lists.{fill}
use Rattle.limits.specs.Limits.{most_wagons}
use lib.ListN.{length, replicate}
use mathlib.Core.Path.{◌≡◌}
use Rattle.pinned.proofs.entries.free_places.Given as goal

abbrev pub invariant-loop-i : goal.invariant-loop-i
invariant-loop-i l = (l.at ≡ length (free_of l.i l.states)) × (l.places ≡ fill (place_of l.states) l.i (replicate most_wagons most_wagons))
