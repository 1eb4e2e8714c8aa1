-- `exhaustive::grid::raise` meets its contract. Assumes nothing.
use mathlib.Core.Path.{◌≡◌}
use Rattle.laws.specs.Lists.{fill}
use Rattle.exhaustive.specs.Walk.{raised_field}
use Rattle.exhaustive.proofs.grid.raise.Given as goal

abbrev pub invariant-loop-i : goal.invariant-loop-i
invariant-loop-i l = l.up ≡ fill (raised_field l.fields l.grid l.j) l.i l.initial.up
