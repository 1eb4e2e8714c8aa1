use native.Mathlib.Omega.{arith}
use borrow.Author.Rules.{sfits_of}
use mathlib.Core.Path.{ap, ◌∙◌}
use lib.IntN.{ℤ}
use lib.ListN.{length}
use mir.Syntax.{w64}
use mir.Val.{to_z, of_z}
use mir.Facts.{to_z-of_z}
use Rattle.local_search.specs.Children.{parent_of}
use Rattle.local_search.proofs.ExpandLaws.{least_one_more, part_room, parent_is}
use Rattle.local_search.proofs.Better.{better_kept}
use Rattle.local_search.proofs.least.keep_least.Goals as goal

pub loop-k-preserved : goal.loop-k-preserved
loop-k-preserved c =
    let room = part_room (length c.args.kept.now) c.loop-k-test.true c.requires.1 in
    let l = c.loop-k in
    let a = c.args in
    let m = length a.kept.now in
    ap (λ (z : ℤ). parent_of z c.keep_better-low.new.kept) (to_z-of_z {w = w64} (sfits_of c.keep_better-low.type_inv))
    ∙ least_one_more m a.objectives.now a.signs.now (parent_of (to_z w64 (of_z w64 a.least)) a.kept.now) l.k _ _ _ (omega arith) l.invariant
    (better_kept _ _ _ _ c.keep_better-low.ensures.least_after c.keep_better-low.ensures.kept_after)
    (parent_is m a.objectives.now a.signs.now l.k room _ (to_z-of_z {w = w64} (sfits_of c.objective-1.given)))
