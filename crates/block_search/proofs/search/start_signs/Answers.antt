-- `block_search::search::start_signs` meets its contract. Assumes nothing.
use mathlib.Core.Path.{◌≡◌, sym, ap, ◌∙◌}
use Prim.Native.Nat.{ℕ}
use native.Mathlib.Omega.{arith}
use lib.ListN.{length, set}
use Rattle.laws.specs.Lists.{elem}
use Rattle.laws.proofs.Made.{tabulate_next}
use Rattle.block_search.proofs.Steps.{signs_made}
use Rattle.block_search.proofs.search.start_signs.Goals as goal

pub loop-k-preserved : goal.loop-k-preserved
loop-k-preserved c = ap (λ (v : ℕ). set c.loop-k.signs c.loop-k.k (elem c.args.b.now v)) c.from.ensures ∙ tabulate_next _ _ _ _ 0 (omega (arith, c.requires.1, c.loop-k-test.true)) c.loop-k.invariant

pub returns : goal.returns
returns c = let e : c.loop-k.k ≡ length c.args.free.now = omega (arith, c.loop-k.auto.k-end, c.loop-k-test.false) in ap (λ n. set c.loop-k.signs n 0) (sym e) ∙ signs_made c.args.free.now c.args.b.now c.args.signs.now e c.loop-k.invariant c.requires.1
