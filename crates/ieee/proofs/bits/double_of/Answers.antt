-- `ieee::bits::double_of` meets its contract: the test is that for a NaN's pattern. Assumes nothing.
use Rattle.std.proofs.Common.{sym, ◌∙◌, le-ltb, lt-ltb}
use lib.Ieee.{binary64, div, of_bits}
use lib.Ieee.Bits.{nan_bits_is, nan_bits_above}
use Rattle.ieee.proofs.Nans.{is_nan_lem}
use Rattle.ieee.proofs.bits.double_of.Goals as goal

pub returns-then-bits-gt9218868437227405312 : goal.returns-then-bits-gt9218868437227405312
unfolding div of_bits
returns-then-bits-gt9218868437227405312 c = sym (is_nan_lem _ (sym (nan_bits_is binary64 c.args.bits) ∙ nan_bits_above binary64 c.args.bits ∙ lt-ltb _ _ c.if-bits-gt9218868437227405312.true))

pub float_from_bits-result : goal.float_from_bits-result
float_from_bits-result c = rw (nan_bits_above binary64 c.args.bits ∙ le-ltb _ _ c.if-bits-gt9218868437227405312.false) tt
