-- `factor::block::add` meets its contract. The first j sums are rewritten. Assumes nothing.
use mathlib.Core.Path.{◌≡◌}
use Rattle.ieee.specs.Floats.{◌*ᶠ◌, at}
use Rattle.laws.specs.Rows.{map_first}
use Rattle.factor.proofs.block.add.Given as goal

abbrev pub invariant-loop-j : goal.invariant-loop-j
invariant-loop-j g l = l.sums ≡ map_first (λ k x. g.T.Term.joins l.term x (l.weight *ᶠ at l.source k)) l.j l.initial.sums
