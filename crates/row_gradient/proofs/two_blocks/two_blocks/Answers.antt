-- `row_gradient::two_blocks::two_blocks` meets its contract. The sums are the definition at e. Assumes nothing.
use mathlib.Core.Path.{sym, ◌∙◌}
use Prim.Native.Nat.{◌-◌}
use native.Mathlib.Nat.{add-zero}
use native.Mathlib.Omega.{arith}
use Rattle.factor.proofs.ByColumns.{block_next}
use Rattle.row_gradient.proofs.ByColumns.{two_ends}
use Rattle.row_gradient.proofs.two_blocks.two_blocks.Goals as goal

pub loop-e-preserved : goal.loop-e-preserved
loop-e-preserved g c = ((rw c.from-k.ensures at c.add_entry.ensures) ∙ (rw add-zero at (block_next _ _ _ _ _ _ 0 g.row.N _ _ c.loop-e.invariant.0)), (rw c.from-k.ensures at c.add_entry-in-loop-e.ensures) ∙ block_next _ _ _ _ _ _ _ _ _ _ c.loop-e.invariant.1)

pub returns : goal.returns
returns g c = let l = c.loop-e in rw (← c.requires.in_bounds.3) (two_ends _ _ _ _ c.args.rank g.row.N g.row.M (c.args.rank - g.row.M) l.e c.args.g.now _ _ _ _ (sym c.requires.in_bounds.3) c.put_sums.auto.g (omega arith) (omega arith) (omega arith) (omega arith) l.invariant.0 l.invariant.1 c.put_sums.ensures c.put_sums-2.ensures)
