-- `ieee::scale::raised` meets its contract. By where the leading digit stands. Assumes nothing.
use Rattle.std.proofs.Common.{◌-◌, ◌*◌, ◌^◌, ◌<◌, arith, mod-eq_of_lt}
use lib.Count.{count_leading_zeros}
use Rattle.ieee.proofs.Scaling.{raised_is}
use Rattle.ieee.proofs.scale.raised.Goals as goal

pub overflow_sub-up : goal.overflow_sub-up
overflow_sub-up c = omega (arith, (raised_is c.args.t c.requires.0 c.requires.1).0)

pub returns : goal.returns
returns c =
    let raised = (raised_is c.args.t c.requires.0 c.requires.1).2 in
    let fits : c.args.t * 2 ^ (count_leading_zeros 64 c.args.t - 11) < 2 ^ 64 = omega (arith, raised.most) in
    rw (c.from.ensures, mod-eq_of_lt fits) raised
