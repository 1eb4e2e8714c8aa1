use Rattle.local_search.specs.SignSearch.{improves_c}
use Rattle.local_search.specs.Children.{change_of, parent_choice}
use Rattle.local_search.proofs.ExpandLaws.{append_one_more}
use Rattle.local_search.proofs.children.first_level.Goals as goal

pub loop-i-preserved : goal.loop-i-preserved
loop-i-preserved c = let l = c.loop-i in
    append_one_more c.args.start.changes.now (improves_c (change_of c.args.start.changes.now)) (parent_choice c.args.start)
    l.i _ _ l.count c.append_child-count.result l.invariant c.append_child-count.ensures.appended
