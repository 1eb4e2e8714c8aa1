-- `coordinate_sweep::pairs::move_pair` meets its contract. By what its callees ensure. Assumes nothing.
use Rattle.coordinate_sweep.proofs.TwoRows.{momentum_pair}
use Rattle.coordinate_sweep.proofs.pairs.move_pair.Goals as goal

pub returns : goal.returns
returns c = momentum_pair _ _ _ _ _ _ _ c.args.factor.now _ _ c.requires.0 (rw (c.requires.1, c.move_row.ensures) at c.move_row-2.ensures) c.normalize_pair.ensures
