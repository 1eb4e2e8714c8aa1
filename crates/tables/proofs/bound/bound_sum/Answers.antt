-- `tables::bound::bound_sum` meets its contract.
use Rattle.tables.proofs.Shares.{value_small}
use Rattle.laws.proofs.Integer.{held}
use Rattle.laws.specs.Lists.{elem_z}
use Rattle.tables.specs.Entries.{listed}
use Rattle.tables.proofs.bound.bound_sum.Goals as goal

pub bound_term-bound-requires : goal.bound_term-bound-requires
bound_term-bound-requires c = let a = c.args in
    rw (held (elem_z a.table.values.now c.loop-k.k) c.bound_term-arg-1.given) (value_small (listed a.table) c.requires c.loop-k.k c.loop-k-test.true)
