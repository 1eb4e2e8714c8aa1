-- `factor::blocks::put_rest` meets its contract. By the tests: the columns are then all written. Assumes nothing.
use mathlib.Core.Path.{◌≡◌, refl, ◌∙◌}
use Prim.Native.Nat.{◌+◌, ◌-◌}
use native.Mathlib.Omega.{arith}
use lib.Ieee.{nan}
use lib.ListN.{length}
use Rattle.laws.proofs.Made.{tabulate_all, tabulate_next}
use Rattle.factor.proofs.Written.{block_next_put, front_made}
use Rattle.factor.proofs.blocks.put_rest.Goals as goal

pub returns-then-rank-first-eq1 : goal.returns-then-rank-first-eq1
returns-then-rank-first-eq1 g c = let e : c.args.first + 1 ≡ length c.args.g.now = omega arith in rw c.column.ensures (rw e at (tabulate_next _ c.args.first c.args.g.now _ nan (omega arith) (front_made _ _ _ c.requires.g_value))) ∙ (tabulate_all _ _ c.args.g.now refl)

pub returns : goal.returns
returns g c = let e : length c.args.g.now - 4 + 4 ≡ length c.args.g.now = omega arith in c.put_block.ensures ∙ (rw e at (block_next_put _ c.args.first (length c.args.g.now - 4) 4 c.args.g.now _ (omega arith) (omega arith) (front_made _ _ _ c.requires.g_value))) ∙ (tabulate_all _ _ c.args.g.now refl)
