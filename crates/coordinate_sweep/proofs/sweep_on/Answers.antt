-- `coordinate_sweep::sweep_on` meets its contract: the row that goes along fits. Assumes nothing.
use mathlib.Core.Path.{refl}
use Rattle.factor.proofs.Shaping.{shaped_row}
use Rattle.coordinate_sweep.proofs.sweep_on.Goals as goal

pub sweep_pair-left-requires-clause-row_fits_2 : goal.sweep_pair-left-requires-clause-row_fits_2
sweep_pair-left-requires-clause-row_fits_2 c = shaped_row _ _ _ _ _ _ _ _ c.requires.shaped refl (c.next_apart.ensures c.if-next_apart.true).0
