use mathlib.Core.Path.{◌≡◌}
use lib.ListN.{length, take}
use Rattle.answer_record.specs.Put.{put, bytes_in}
use Rattle.answer_record.proofs.put.put_fields.Given as goal

abbrev pub invariant-loop-width : goal.invariant-loop-width
invariant-loop-width l = (l.out ≡ put l.initial.out 0 (bytes_in (take l.width-index l.fields))) × (l.at ≡ length (bytes_in (take l.width-index l.fields)))
