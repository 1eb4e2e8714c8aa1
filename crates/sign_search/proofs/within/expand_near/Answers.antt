use native.Mathlib.Omega.{arith}
use mathlib.Core.Path.{refl}
use Rattle.sign_search.proofs.NearLaws.{near_free, near_inside, near_far, near_edge, all_near, back_near, none_near}
use Rattle.sign_search.proofs.within.expand_near.Goals as goal

pub returns-then-current-reach : goal.returns-then-current-reach
returns-then-current-reach c =
    all_near _ _ _ _ _ _ _ _ _ _ (λ i h. near_free _ _ i (omega arith) _ c.if-current-reach.true) c.expand_parent.ensures

pub returns-then-apart-reach : goal.returns-then-apart-reach
returns-then-apart-reach c =
    all_near _ _ _ _ _ _ _ _ _ _ (λ i h. near_inside _ _ i (omega arith) _ (omega arith)) c.expand_parent-then-apart-reach.ensures

pub returns-then-apart-reach-gt1 : goal.returns-then-apart-reach-gt1
returns-then-apart-reach-gt1 c =
    none_near _ _ _ _ _ _ _ _ _ _ (λ i h. near_far _ _ i (omega arith) _ (omega (arith, c.if-apart-reach-gt1.true))) refl c.requires.0.used

pub returns : goal.returns
returns c =
    back_near _ _ _ _ _ _ _ _ _ _ (λ i h. near_edge _ _ i (omega arith) _ (omega arith) (omega (arith, c.if-apart-reach-gt1.false)))
    c.expand_back.ensures
