-- `factor::product::multiply` meets its contract. The first i rows are written. Assumes nothing.
use mathlib.Core.List.{◌++◌}
use mathlib.Core.Path.{◌≡◌}
use Prim.Native.Nat.{◌*◌}
use lib.ListN.{drop}
use Rattle.factor.specs.Multiply.{product_of}
use Rattle.factor.proofs.product.multiply.Given as goal

abbrev pub invariant-loop-i : goal.invariant-loop-i
invariant-loop-i l = l.out ≡ product_of l.table.cols.now l.table.values.now l.table.starts.now l.factor l.rank l.i ++ drop (l.i * l.rank) l.initial.out
