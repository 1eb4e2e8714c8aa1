-- `rounding::compute_rounded_sols` meets its contract. The first k draws are rounded. Assumes nothing.
use mathlib.Core.Path.{◌≡◌}
use mathlib.Core.List.{◌++◌}
use Prim.Native.Nat.{◌*◌}
use lib.ListN.{drop}
use Rattle.rounding.specs.Rounding.{rounded_sols}
use Rattle.rounding.proofs.compute_rounded_sols.Given as goal

abbrev pub invariant-loop-k : goal.invariant-loop-k
invariant-loop-k l = l.sols ≡ rounded_sols l.factor l.rank l.m l.draws.numbers.now l.k ++ drop (l.k * l.m) l.initial.sols
