-- A record's first field tells its length. Assumes nothing.
--     record_length    of the answer of any job, at the front of any slice
--     framed           of what the record call leaves
use Prim.Native.Nat.{ℕ, zero, suc, ◌+◌, ◌^◌, ◌≤◌, ◌<◌}
use mathlib.Core.Path.{◌≡◌, refl, ◌∙◌}
use mathlib.Core.Bool.{false}
use mathlib.Core.List.{List}
use native.Mathlib.Omega.{arith}
use lib.ListN.{length, take, drop, length-append}
use lib.Seq.{length-take-le, take_at}
use Rattle.laws.specs.Lists.{over}
use Rattle.job_reader.specs.Bytes.{big_endian}
use Rattle.job_reader.specs.Encode.{bytes_of}
use Rattle.job_reader.proofs.Encode.{length_bytes_of, read_bytes}
use Rattle.job_record.specs.Number.{job_number}
use Rattle.answer_record.specs.Answer.{frame_bytes, count_bytes, float_bytes, eighth_bytes, answer_bytes, refusal_bytes}
use Rattle.answer_record.specs.declared.answer.Answer.{Answer}
use Rattle.limits.specs.Limits.{least_answer}
use Rattle.record_call.specs.Record.{job_fields, whole_choice, bytes_by, answer_of, least_workspace, too_short, answer_after}
use Rattle.record_call.proofs.Freed.{job_hall}
use Rattle.record_call.proofs.Answering.{roomy}
use Rattle.record_call.proofs.Promise.{n_is, choice_size}

answer_size : (a : Answer) (b : List ℕ) → a.n ≤ length b → length (answer_bytes a b) ≡ 60 + a.n
unfolding answer_bytes frame_bytes count_bytes float_bytes eighth_bytes
answer_size a b h = simp (length-append, length_bytes_of, length-take-le a.n b h)

answer_front : (a : Answer) (b out : List ℕ) → 56 + a.n < 2 ^ 32 → big_endian (over (answer_bytes a b) out) 0 4 ≡ 56 + a.n
unfolding answer_bytes frame_bytes count_bytes float_bytes eighth_bytes bytes_of big_endian
answer_front a b out h = read_bytes 4 (56 + a.n) h

refusal_size : (k : ℕ) → length (refusal_bytes k) ≡ 6
unfolding refusal_bytes
refusal_size k = simp (length-append, length_bytes_of)

refusal_front : (k : ℕ) (out : List ℕ) → big_endian (over (refusal_bytes k) out) 0 4 ≡ 2
unfolding refusal_bytes bytes_of big_endian
refusal_front k out = refl

module _ (s out : List ℕ) where
  accepted_length : job_number s ≡ 0 → 4 + big_endian (over (bytes_by 0 s) out) 0 4 ≡ length (bytes_by 0 s)
  accepted_length e =
      let a = job_fields s in
      let low = (job_hall s e).wagons in
      let n = n_is s e in
      let front = answer_front a (whole_choice s) out (omega arith) in
      let size = answer_size a (whole_choice s) (omega (arith, choice_size s e)) in
      omega arith

  by_number : (n : ℕ) → job_number s ≡ n → 4 + big_endian (over (bytes_by n s) out) 0 4 ≡ length (bytes_by n s)
  by_number zero e = accepted_length e
  by_number (suc k) e = let front = refusal_front (suc k) out in let size = refusal_size (suc k) in omega arith

  pub record_length : 4 + big_endian (over (answer_of s).bytes out) 0 4 ≡ length (answer_of s).bytes
  unfolding answer_of
  record_length = by_number (job_number s) refl

  -- it fits the least answer slice
  few_bytes : (n : ℕ) → job_number s ≡ n → length (bytes_by n s) ≤ least_answer
  few_bytes zero e =
      let size = answer_size (job_fields s) (whole_choice s) (omega (arith, choice_size s e, n_is s e)) in
      omega (arith, size, (job_hall s e).wagons, n_is s e)
  few_bytes (suc k) e = omega (arith, refusal_size (suc k))

  pub record_few : length (answer_of s).bytes ≤ least_answer
  unfolding answer_of
  record_few = few_bytes (job_number s) refl

after : (job workspace answer : List ℕ) → too_short (length workspace) (length answer) ≡ false → answer_after job (length workspace) answer ≡ over (answer_of job).bytes answer
unfolding answer_after
after job workspace answer t = rw t

-- what the call leaves: as many bytes as the first field tells are the answer
pub framed : (job workspace answer answer' : List ℕ) (rest : ℕ) → least_workspace ≤ length workspace → least_answer ≤ length answer → answer' ≡ answer_after job (length workspace) answer
    → rest ≡ big_endian answer' 0 4 → (take (4 + rest) answer' ≡ (answer_of job).bytes) × (4 + rest ≤ length answer') × (4 + rest ≤ least_answer)
framed job workspace answer answer' rest w a e is =
    let bytes = (answer_of job).bytes in
    let left : answer' ≡ over bytes answer = e ∙ after job workspace answer (roomy job workspace answer a w) in
    let size : 4 + rest ≡ length bytes = rw (is, left) (record_length job answer) in (
      rw (size, left) (take_at bytes (drop (length bytes) answer) (length bytes) refl),
      rw (size, left, length-append bytes (drop (length bytes) answer)) (omega arith),
      rw size (record_few job answer),
    )
