-- `block_search::search::start_signs` meets its contract. Assumes nothing.
use mathlib.Core.Path.{◌≡◌}
use Rattle.laws.specs.Lists.{elem, over, tabulate}
use Rattle.block_search.proofs.search.start_signs.Given as goal

abbrev pub invariant-loop-k : goal.invariant-loop-k
invariant-loop-k l = l.signs ≡ over (tabulate (λ j. elem l.b (elem l.free j)) l.k) l.initial.signs
