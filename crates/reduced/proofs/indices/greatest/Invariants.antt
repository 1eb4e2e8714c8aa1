-- `reduced::indices::greatest` meets its contract. The most so far is the definition at j. Assumes nothing.
use mathlib.Core.Path.{◌≡◌}
use Prim.Native.Nat.{max}
use Rattle.laws.specs.Lists.{elem}
use Rattle.laws.specs.Turns.{up_to}
use Rattle.reduced.proofs.indices.greatest.Given as goal

abbrev pub invariant-loop-index : goal.invariant-loop-index
invariant-loop-index l = l.most ≡ up_to (λ i x. max x (elem l.indices i)) l.index-index 0
