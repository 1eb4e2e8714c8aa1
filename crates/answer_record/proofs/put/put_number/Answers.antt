use mathlib.Core.Path.{◌≡◌, ◌∙◌}
use native.Mathlib.Omega.{arith}
use Rattle.answer_record.proofs.Written.{stored, stored_turn, put_written}
use Rattle.answer_record.proofs.put.put_number.Goals as goal

pub loop-i-preserved : goal.loop-i-preserved
loop-i-preserved c = let l = c.loop-i in stored_turn l.out c.args.at l.left l.i (omega arith) ∙ l.invariant

pub returns : goal.returns
unfolding stored
returns c = let l = c.loop-i in
    let a = c.args in
    let e : l.i ≡ 0 = omega arith in
    (rw e at l.invariant) ∙ put_written a.width a.out.now a.at a.value (omega arith)
