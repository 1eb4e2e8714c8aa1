use native.Mathlib.Omega.{arith}
use lib.ListN.{length}
use Rattle.tables.specs.Entries.{listed}
use Rattle.sign_search.proofs.MoveLaws.{hand_moved}
use Rattle.sign_words.proofs.ApartLaws.{same_before, same_all}
use Rattle.sign_search.proofs.moves.move_to.Goals as goal

pub returns-clause-current_after : goal.returns-clause-current_after
returns-clause-current_after c = let l = c.loop-i in
    let a = c.args in
    let same = same_all l.current_row a.target.now l.from l.invariant.2 c.in_default.ensures in
    hand_moved (listed a.table) l.current l.current_row a.target.now l.changes (length a.current.now) l.auto.current l.invariant.0
    (λ j h. same j (omega arith))

pub returns-then-m-i-clause-current_after : goal.returns-then-m-i-clause-current_after
returns-then-m-i-clause-current_after c = let l = c.loop-i in
    let a = c.args in
    let same = same_before l.current_row a.target.now l.from l.invariant.2 c.in-Some.ensures in
    hand_moved (listed a.table) l.current l.current_row a.target.now l.changes (length a.current.now) l.auto.current l.invariant.0
    (λ j h. same j (omega arith))
