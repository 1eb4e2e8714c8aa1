-- `rounding::compute_rounded_sol` meets its contract. The best is the first least of the draws before k. Assumes nothing.
use mathlib.Core.Path.{◌≡◌}
use Prim.Native.Nat.{◌-◌}
use Rattle.tables.specs.Entries.{listed}
use Rattle.rounding.specs.Rounding.{first_least, signs_of, draw_objective}
use Rattle.rounding.proofs.compute_rounded_sol.Given as goal

abbrev pub invariant-loop-k : goal.invariant-loop-k
invariant-loop-k l = (l.least ≡ draw_objective l.factor l.rank l.m l.draws.numbers.now (listed l.table) (first_least (draw_objective l.factor l.rank l.m l.draws.numbers.now (listed l.table)) (l.k - 1))) × (l.best ≡ signs_of l.factor l.rank l.m l.draws.numbers.now (first_least (draw_objective l.factor l.rank l.m l.draws.numbers.now (listed l.table)) (l.k - 1)))
