use Rattle.laws.specs.Lists.{elem, elem_z, tabulate, over}
use lib.IntN.{◌+ℤ◌}
use mathlib.Core.Path.{◌≡◌}
use Rattle.pinned.proofs.reduce.put_costs.Given as goal

abbrev pub invariant-loop-k : goal.invariant-loop-k
invariant-loop-k l = l.to_c ≡ over (tabulate (λ j. elem_z l.c (elem l.free j) +ℤ elem_z l.sums (elem l.free j)) l.k) l.initial.to_c
