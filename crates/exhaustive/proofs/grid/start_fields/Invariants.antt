-- `exhaustive::grid::start_fields` meets its contract. Assumes nothing.
use mathlib.Core.Path.{◌≡◌}
use Rattle.laws.specs.Lists.{fill}
use Rattle.exhaustive.specs.Walk.{start_field}
use Rattle.exhaustive.proofs.grid.start_fields.Given as goal

abbrev pub invariant-loop-j : goal.invariant-loop-j
invariant-loop-j l = l.fields ≡ fill (start_field l.grid l.c) l.j l.initial.fields
