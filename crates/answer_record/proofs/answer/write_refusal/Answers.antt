use mathlib.Core.Path.{ap, ◌∙◌}
use mathlib.Core.List.{append_assoc, append-nil}
use native.Mathlib.Omega.{arith}
use lib.ListN.{length-append}
use Rattle.job_reader.proofs.Encode.{length_bytes_of}
use Rattle.answer_record.specs.Answer.{refusal_bytes}
use Rattle.answer_record.specs.Put.{put}
use Rattle.answer_record.proofs.Written.{put_front}
use Rattle.answer_record.proofs.answer.write_refusal.Goals as goal

pub put_fields-requires : goal.put_fields-requires
put_fields-requires c = simp (length-append, length_bytes_of) (omega arith)

pub returns : goal.returns
unfolding refusal_bytes
returns c = put_front c.args.out.now _ (c.put_fields.ensures ∙ ap (put c.args.out.now 0) (simp (c.from.ensures, append_assoc, append-nil)))
