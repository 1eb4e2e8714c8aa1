-- `coordinate_sweep::pairs::meets` meets its contract. What is found is the definition at e. Assumes nothing.
use mathlib.Core.Path.{◌≡◌}
use lib.Dec.{eqb}
use lib.ListN.{get_or}
use Rattle.laws.specs.Lists.{any_below}
use Rattle.coordinate_sweep.proofs.pairs.meets.Given as goal

abbrev pub invariant-loop-e : goal.invariant-loop-e
invariant-loop-e l = l.found ≡ any_below l.e (λ k. eqb (get_or l.cols k 0) l.i)
