use mathlib.Core.Path.{◌≡◌}
use Rattle.local_search.specs.LocalSearch.{best}
use Rattle.local_search.specs.Level.{below, level_of}
use Rattle.local_search.specs.Children.{parent_of}
use Rattle.local_search.proofs.least.keep_least.Given as goal

abbrev pub invariant-loop-k : goal.invariant-loop-k
invariant-loop-k l = parent_of (l.low) l.kept ≡ best below (parent_of (l.least) l.initial.kept) (level_of l.m l.k l.objectives l.signs)
