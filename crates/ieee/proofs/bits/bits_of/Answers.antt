-- `ieee::bits::bits_of` meets its contract: only the NaN differs from itself. Assumes nothing.
use Rattle.std.proofs.Common.{sym, ap, ◌∙◌}
use lib.Ieee.{binary64, to_bits}
use Rattle.ieee.proofs.Nans.{is_nan_lem}
use Rattle.ieee.proofs.bits.bits_of.Goals as goal

pub returns-then-is_nan : goal.returns-then-is_nan
unfolding to_bits
returns-then-is_nan c = ap (to_bits binary64) (sym (is_nan_lem _ (sym c.is_nan.ensures.value ∙ c.if-is_nan.true)))
