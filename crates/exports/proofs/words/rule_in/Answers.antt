-- `exports::words::rule_in` meets its contract. Assumes nothing.
use lib.Ieee.{of_bits}
use Rattle.exports.proofs.Back.{rule_none}
use Rattle.exports.proofs.words.rule_in.Goals as goal

pub returns-then-word-gt4 : goal.returns-then-word-gt4
unfolding of_bits
returns-then-word-gt4 c = rule_none _ _ c.if-word-gt4.true
