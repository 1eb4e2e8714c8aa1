-- `reduced::indices::any_twice` meets its contract. What is found is the definition at j, the marks are those of the first j. Assumes nothing.
use mathlib.Core.Path.{◌≡◌}
use lib.Dec.{eqb}
use mathlib.Core.Bool.{true, false}
use lib.ListN.{replicate}
use Rattle.limits.specs.Limits.{most_size}
use Rattle.laws.specs.Lists.{elem, any_below}
use Rattle.reduced.specs.Indices.{put_each}
use Rattle.reduced.proofs.indices.any_twice.Given as goal

abbrev pub invariant-loop-original : goal.invariant-loop-original
invariant-loop-original l = (l.found ≡ any_below l.original-index (λ k. any_below k (λ i. eqb (elem l.variable_map i) (elem l.variable_map k)))) × (l.seen ≡ put_each (elem l.variable_map) (λ _. true) l.original-index (replicate most_size false))
