-- `block_search::blocks::Moving::hold` meets its contract. Assumes nothing.
use mathlib.Core.Path.{ap, ◌∙◌}
use native.Mathlib.Omega.{arith}
use Prim.Native.Nat.{ℕ}
use mathlib.Core.Bool.{cond}
use lib.ListN.{set}
use Rattle.laws.specs.Lists.{elem}
use Rattle.laws.proofs.Made.{tabulate_next}
use Rattle.block_search.specs.Clauses.{moved_by}
use Rattle.block_search.proofs.blocks.Moving.hold.Goals as goal

pub loop-i-preserved : goal.loop-i-preserved
loop-i-preserved c = ap (λ (v : ℕ). set c.loop-i.states c.loop-i.i v) c.state_of.ensures ∙ tabulate_next (λ j. cond (moved_by c.args.self.pinned.now c.args.self.block j) 2 (elem c.args.b.now j)) c.loop-i.i c.args.states.now c.loop-i.states 0 (omega (arith, c.requires.1, c.loop-i-test.true)) c.loop-i.invariant
