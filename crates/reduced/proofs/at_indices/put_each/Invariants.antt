use Rattle.std.proofs.Common.{◌≡◌, get_or}
use Rattle.laws.specs.Lists.{elem}
use Rattle.reduced.specs.Indices.{put_each}
use Rattle.reduced.proofs.at_indices.put_each.Given as goal

abbrev pub invariant-loop-j : goal.invariant-loop-j
invariant-loop-j g l = (d : g.row.T.Denot) → l.to ≡ put_each {A = g.row.T.Denot} (elem l.indices) (λ j. get_or l.values j d) l.j l.initial.to
