-- `factor_calls::whole::quotient` meets its contract. Each sum is the definition at i. Assumes nothing.
use mathlib.Core.Path.{◌≡◌}
use native.Mathlib.Numerals.{add-one}
use native.Mathlib.Omega.{arith}
use lib.ListN.{length}
use Rattle.factor.specs.Norms.{dot_of, dot_to}
use Rattle.factor_calls.proofs.whole.quotient.Goals as goal

pub loop-i-preserved : goal.loop-i-preserved
unfolding dot_to
loop-i-preserved c = (rw (add-one, c.loop-i.invariant.0), rw (add-one, c.loop-i.invariant.1))

pub returns : goal.returns
unfolding dot_of
returns c = let e : c.loop-i.i ≡ length c.args.v.now = omega arith in
    let g : length c.args.sums.now ≡ length c.args.v.now = c.requires in
    cc
