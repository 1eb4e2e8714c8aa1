-- `factor::blocks::put_all` meets its contract. By what its callees ensure. Assumes nothing.
use lib.Seq.{take_at}
use Rattle.laws.proofs.Made.{length_tabulate}
use Rattle.factor.proofs.blocks.put_all.Goals as goal

pub put_blocks-first-requires-clause-g_value : goal.put_blocks-first-requires-clause-g_value
put_blocks-first-requires-clause-g_value g c = rw (c.put_blocks-whole.auto.g, c.put_blocks-whole.ensures.2) (take_at _ _ _ (length_tabulate _ _))

pub put_rest-requires-clause-g_value : goal.put_rest-requires-clause-g_value
put_rest-requires-clause-g_value g c = rw (c.put_blocks-first.auto.g, c.put_blocks-first.ensures.2) (take_at _ _ _ (length_tabulate _ _))
