use native.Mathlib.Omega.{arith}
use lib.ListN.{length}
use Rattle.local_search.specs.Level.{level_of, Ascending}
use Rattle.local_search.specs.SignSearch.{improves_c}
use Rattle.local_search.specs.Children.{change_of, parent_choice}
use Rattle.local_search.proofs.LevelLaws.{objectives_of, objectives_are}
use Rattle.local_search.proofs.OrderLaws.{kept_rising}
use Rattle.local_search.proofs.ExpandLaws.{children_none, children_one_more}
use Rattle.local_search.proofs.LimitLaws.{first_is, none_is, passed_over}
use Rattle.local_search.proofs.children.expand_parent.Goals as goal
use Rattle.local_search.proofs.children.expand_parent.Goals.{Start}

-- the objectives that the level begins with
rising : (c : Start) → let a = c.args in Ascending (objectives_of (level_of (length a.parent.row.now) a.count a.objectives.now a.signs.now))
rising c =
    let a = c.args in
    rw (objectives_are (length a.parent.row.now) a.count a.objectives.now a.signs.now (omega arith)) c.requires.1

pub loop-i-init : goal.loop-i-init
loop-i-init c = let a = c.args in (
  omega arith,
  children_none a.width (level_of (length a.parent.row.now) a.count a.objectives.now a.signs.now) a.parent.changes.now (improves_c (change_of a.parent.changes.now)) (parent_choice a.parent) a.count c.requires.0.used,
)

pub consider_child-kept-requires : goal.consider_child-kept-requires
consider_child-kept-requires c = let l = c.loop-i in
    let p = c.requires.0 in
    let found = first_is c.in-Some.ensures in (
      record {
        some = p.some;
        used = l.invariant.1.room;
        objectives_room = omega arith;
        signs_room = omega arith;
        signs_held = omega arith;
        changes_many = omega arith;
        safe = λ j h. p.safe j (omega arith);
      },
      kept_rising c.args.width (length c.args.parent.row.now) l.kept l.objectives l.signs _ _ l.kept
          (omega arith)
          (rising (goal.at.consider_child-kept-requires c).Start) l.invariant.1,
    )

pub loop-i-preserved : goal.loop-i-preserved
loop-i-preserved c =
    let l = c.loop-i in
    let a = c.args in
    let n = length a.parent.row.now in
    let level = level_of n a.count a.objectives.now a.signs.now in
    let found = first_is c.in-Some.ensures in (
      omega arith,
      children_one_more a.width level a.parent.changes.now (improves_c (change_of a.parent.changes.now)) (parent_choice a.parent) c.in-Some.i _ _ l.kept c.consider_child-kept.result
          (passed_over a.width level a.parent.changes.now (parent_choice a.parent) n l.kept l.objectives l.signs l.from c.in-Some.i
          c.requires.0.some (omega arith) (rising (goal.at.loop-i-preserved c).Start) found.0 found.2 l.invariant.1)
          c.consider_child-kept.ensures.kept,
    )

pub returns : goal.returns
returns c =
    let l = c.loop-i in
    let a = c.args in
    let n = length a.parent.row.now in
    passed_over a.width (level_of n a.count a.objectives.now a.signs.now) a.parent.changes.now (parent_choice a.parent) n l.kept l.objectives l.signs l.from a.m
    c.requires.0.some (omega arith) (rising (goal.at.returns c).Start) l.invariant.0 (none_is c.in_default.ensures) l.invariant.1
