-- `tables::objective::qubo_binary_from_sign_solution` meets its contract.
use Rattle.tables.specs.Cost.{decoded_byte}
use Rattle.laws.specs.Lists.{fill}
use mathlib.Core.Path.{◌≡◌}
use Rattle.tables.proofs.objective.qubo_binary_from_sign_solution.Given as goal

abbrev pub invariant-loop-i : goal.invariant-loop-i
invariant-loop-i l = l.b ≡ fill (decoded_byte l.n l.signs) l.i l.initial.b
