use borrow.Author.Rules.{rules}
use mathlib.Core.Path.{◌≡◌, ap, ◌∙◌}
use mathlib.Core.List.{List, ◌++◌, append_assoc, append-nil}
use Prim.Native.Nat.{ℕ}
use native.Mathlib.Omega.{arith}
use mir.Syntax.{w64}
use mir.ValLaws.{to_z-of_z}
use lib.ListN.{length-append, take}
use Rattle.ieee.specs.Floats.{bits_of_signed}
use Rattle.job_reader.proofs.Encode.{length_bytes_of}
use Rattle.answer_record.specs.Put.{put}
use Rattle.answer_record.specs.Answer.{frame_bytes, count_bytes, float_bytes, eighth_bytes, answer_bytes}
use Rattle.answer_record.proofs.Written.{put_next, put_front}
use Rattle.answer_record.proofs.answer.write_answer.Goals as goal

pub put_fields-requires : goal.put_fields-requires
put_fields-requires c = simp (length-append, length_bytes_of) (omega arith)

pub returns : goal.returns
unfolding answer_bytes frame_bytes count_bytes float_bytes eighth_bytes
returns c = let a = c.args.a in let o = c.args.out.now in
    let floor : c.bits_of_signed.result ≡ bits_of_signed a.floor = c.bits_of_signed.ensures ∙ ap bits_of_signed (to_z-of_z w64 a.floor (search rules)) in
    let rounded : c.bits_of_signed-2.result ≡ bits_of_signed a.rounded_cost = c.bits_of_signed-2.ensures ∙ ap bits_of_signed (to_z-of_z w64 a.rounded_cost (search rules)) in
    let cost : c.bits_of_signed-3.result ≡ bits_of_signed a.cost = c.bits_of_signed-3.ensures ∙ ap bits_of_signed (to_z-of_z w64 a.cost (search rules)) in
    let front : List ℕ = frame_bytes a.n ++ count_bytes a.status a.rank a.n a.sweeps ++ float_bytes a.relaxed_objective a.float_bound ++ eighth_bytes a.floor a.rounded_cost a.cost a.rounds in
    put_front o (front ++ take a.n c.args.b.now)
    (put_next o 0 60 front (take a.n c.args.b.now)
    (c.put_fields.ensures ∙ ap (put o 0) (simp (c.from.ensures, c.from-2.ensures, c.from-3.ensures, c.from-4.ensures, c.from-5.ensures, c.bits_of.ensures, c.bits_of-2.ensures, floor, rounded, cost, append_assoc, append-nil)))
    (rw c.from-6.ensures at c.put_bytes.ensures) (omega arith) (simp (length-append, length_bytes_of)))
