use mathlib.Core.Path.{sym, ◌∙◌}
use native.Mathlib.Omega.{arith}
use native.Mathlib.Nat.{zero-add}
use lib.ListN.{length-append}
use Rattle.job_reader.proofs.Encode.{length_bytes_of}
use Rattle.answer_record.proofs.Written.{put_next, fields_next}
use Rattle.answer_record.proofs.put.put_fields.Goals as goal

pub loop-width-preserved : goal.loop-width-preserved
loop-width-preserved c = let l = c.loop-width in
    let next = fields_next c.args.fields.now l.width-index c.loop-width-test.true in (
      rw next (put_next c.args.out.now 0 l.at _ _ l.invariant.0 c.put_number.ensures (omega arith) (zero-add _ ∙ sym l.invariant.1)),
      rw next (simp (length-append, length_bytes_of) (omega arith)),
    )
