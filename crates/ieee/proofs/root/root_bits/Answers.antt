-- `ieee::root::root_bits` meets its contract. Assumes nothing.
use Rattle.ieee.proofs.Patterns.{root_pattern}
use Rattle.ieee.proofs.root.root_bits.Goals as goal

pub returns : goal.returns
returns c = root_pattern c.args.b.some c.args.b.finite c.scaled-s.ensures c.isqrt54-q.ensures
