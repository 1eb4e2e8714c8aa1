-- `ieee::digits::isqrt54` meets its contract. Assumes nothing.
use Rattle.std.proofs.Common.{arith}
use Rattle.ieee.proofs.Squares.{square_le}
use Rattle.ieee.proofs.Extending.{divided, one_less}
use Rattle.ieee.proofs.digits.isqrt54.Goals as goal

pub overflow_mul-u : goal.overflow_mul-u
overflow_mul-u c =
    let f = divided c.args.m c.isqrt-s.result c.requires.0 c.requires.1 c.isqrt-s.ensures in omega (arith, square_le f.quotient)

pub returns-else-u-t : goal.returns-else-u-t
returns-else-u-t c =
    let f = divided c.args.m c.isqrt-s.result c.requires.0 c.requires.1 c.isqrt-s.ensures in one_less f c.if-u-t.false (omega arith)
