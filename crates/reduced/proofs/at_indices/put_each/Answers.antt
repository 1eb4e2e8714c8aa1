-- `reduced::at_indices::put_each` meets its contract: after j turns the first j values are put, read with any default. Assumes nothing.
use Rattle.std.proofs.Common.{arith, ◌≡◌, length}
use Rattle.std.proofs.lemmas.List.{get_or_read}
use Rattle.reduced.proofs.Put.{put_next}
use Rattle.reduced.proofs.at_indices.put_each.Goals as goal

pub loop-j-preserved : goal.loop-j-preserved
loop-j-preserved g c = λ d. put_next _ _ _ _ (c.loop-j.invariant d) c.from-index.ensures (get_or_read c.args.values.now _ _ (omega (arith, c.requires.1)) c.index-values-j.is d)

pub returns : goal.returns
returns g c = λ d. let e : c.loop-j.j ≡ length c.args.indices.now = omega arith in rw e at (c.loop-j.invariant d)
