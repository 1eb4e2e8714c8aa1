-- `ieee::root::is_rounded` meets its contract. Assumes nothing.
use Rattle.std.proofs.Common.{◌/◌, ◌%◌, ◌^◌, arith, leb-true}
use Rattle.ieee.proofs.Halves.{near}
use Rattle.ieee.proofs.root.is_rounded.Goals as goal

pub returns : goal.returns
returns c = λ e. near (c.args.r / 2 ^ 26) (c.args.r % 2 ^ 26) (omega arith) c.if-m-square.false c.if-left-product.false (omega arith) (leb-true _ _ e)
