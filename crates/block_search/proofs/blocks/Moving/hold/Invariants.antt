-- `block_search::blocks::Moving::hold` meets its contract. Assumes nothing.
use mathlib.Core.Path.{◌≡◌}
use mathlib.Core.Bool.{cond}
use Rattle.laws.specs.Lists.{elem, over, tabulate}
use Rattle.block_search.specs.Clauses.{moved_by}
use Rattle.block_search.proofs.blocks.Moving.hold.Given as goal

abbrev pub invariant-loop-i : goal.invariant-loop-i
invariant-loop-i l = l.states ≡ over (tabulate (λ j. cond (moved_by l.self.pinned.now l.self.block j) 2 (elem l.b j)) l.i) l.initial.states
