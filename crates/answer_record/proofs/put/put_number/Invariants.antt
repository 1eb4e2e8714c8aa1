use mathlib.Core.Path.{◌≡◌}
use Rattle.answer_record.proofs.Written.{stored}
use Rattle.answer_record.proofs.put.put_number.Given as goal

abbrev pub invariant-loop-i : goal.invariant-loop-i
invariant-loop-i l = stored l.out l.at l.left l.i ≡ stored l.initial.out l.at l.value l.width
