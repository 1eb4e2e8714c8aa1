-- `exports::turns::no_run` meets its contract. Assumes nothing.
use mathlib.Core.Path.{refl}
use lib.Ieee.{of_bits}
use Rattle.exports.proofs.turns.no_run.Goals as goal

pub returns : goal.returns
unfolding of_bits
returns c = refl
