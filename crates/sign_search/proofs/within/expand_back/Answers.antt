use native.Mathlib.Omega.{arith}
use lib.ListN.{length}
use Rattle.local_search.proofs.LevelLaws.{objectives_are}
use Rattle.local_search.proofs.OrderLaws.{kept_rising}
use Rattle.local_search.proofs.ExpandLaws.{children_one_more}
use Rattle.sign_search.proofs.within.expand_back.Goals as goal

pub back_child-kept-requires : goal.back_child-kept-requires
back_child-kept-requires c = let l = c.loop-i in
    let a = c.args in
    let p = c.requires.0 in (
      record {
        some = p.some;
        used = l.invariant.room;
        objectives_room = omega arith;
        signs_room = omega arith;
        signs_held = omega arith;
        changes_many = omega arith;
        safe = λ j h. p.safe j (omega arith);
      },
      kept_rising _ _ _ _ _ _ _ _
          (omega arith)
          (rw (objectives_are (length a.parent.row.now) a.count a.objectives.now a.signs.now (omega arith)) c.requires.1) l.invariant,
      omega arith,
      omega arith,
    )

pub loop-i-preserved : goal.loop-i-preserved
loop-i-preserved c = let l = c.loop-i in
    let k = c.back_child-kept in
    children_one_more _ _ _ _ _ l.i _ _ l.kept k.result l.invariant k.ensures
