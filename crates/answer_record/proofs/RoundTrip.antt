-- What is written of an answer is read back.
--     answer_back    the fields
--     choice_back    and the choice
-- Assumes nothing.
use Prim.Native.Nat.{ℕ, ◌≤◌}
use mathlib.Core.Path.{◌≡◌, ap}
use mathlib.Core.List.{List, ◌++◌, append_assoc}
use lib.ListN.{length, take, drop, length-append}
use lib.Seq.{take_at, drop_at, length-take-le}
use lib.IntN.{ℤ}
use lib.Ieee.{Float}
use Rattle.laws.specs.Lists.{over}
use Rattle.job_reader.specs.Bytes.{big_endian}
use Rattle.job_reader.specs.Encode.{bytes_of}
use Rattle.job_reader.proofs.Encode.{length_bytes_of, read_bytes, read_signed, read_double}
use Rattle.answer_record.specs.Answer.{frame_bytes, count_bytes, float_bytes, eighth_bytes, answer_bytes, fields_read, choice_read, Held}
use Rattle.answer_record.specs.declared.answer.Answer.{Answer}

same : {status status' rank rank' n n' sweeps sweeps' rounds rounds' : ℕ} {relaxed relaxed' bound bound' : Float} {floor floor' rounded rounded' cost cost' : ℤ}
    → status ≡ status' → rank ≡ rank' → n ≡ n' → sweeps ≡ sweeps' → relaxed ≡ relaxed' → bound ≡ bound' → floor ≡ floor' → rounded ≡ rounded' → cost ≡ cost' → rounds ≡ rounds'
    → ◌≡◌ {A = Answer} (record { status = status; rank = rank; n = n; sweeps = sweeps; relaxed_objective = relaxed; float_bound = bound; floor = floor; rounded_cost = rounded; cost = cost; rounds = rounds })
    (record { status = status'; rank = rank'; n = n'; sweeps = sweeps'; relaxed_objective = relaxed'; float_bound = bound'; floor = floor'; rounded_cost = rounded'; cost = cost'; rounds = rounds' })
same a b c d e f g h i j = rw (a, b, c, d, e, f, g, h, i, j)

pub answer_back : (a : Answer) (b out : List ℕ) → Held a → fields_read (over (answer_bytes a b) out) ≡ a
unfolding fields_read answer_bytes frame_bytes count_bytes float_bytes eighth_bytes bytes_of big_endian
answer_back a b out h =
    same (read_bytes 1 a.status h.status) (read_bytes 1 a.rank h.rank) (read_bytes 1 a.n h.n) (read_bytes 4 a.sweeps h.sweeps)
    (read_double a.relaxed_objective h.relaxed) (read_double a.float_bound h.bound)
    (read_signed a.floor h.floor) (read_signed a.rounded_cost h.rounded) (read_signed a.cost h.cost) (read_bytes 8 a.rounds h.rounds)

front_size : (a : Answer) → length (frame_bytes a.n ++ count_bytes a.status a.rank a.n a.sweeps ++ float_bytes a.relaxed_objective a.float_bound
    ++ eighth_bytes a.floor a.rounded_cost a.cost a.rounds) ≡ 60
unfolding frame_bytes count_bytes float_bytes eighth_bytes
front_size a = simp (length-append, length_bytes_of)

after : (a : Answer) (b out : List ℕ) → drop 60 (over (answer_bytes a b) out) ≡ take a.n b ++ drop (length (answer_bytes a b)) out
unfolding answer_bytes
after a b out =
    let front : List ℕ = frame_bytes a.n ++ count_bytes a.status a.rank a.n a.sweeps ++ float_bytes a.relaxed_objective a.float_bound ++ eighth_bytes a.floor a.rounded_cost a.cost a.rounds in
    rw (append_assoc front (take a.n b) (drop (length (front ++ take a.n b)) out)) (drop_at front _ 60 (front_size a))

n_back : (a : Answer) (b out : List ℕ) → Held a → big_endian (over (answer_bytes a b) out) 7 1 ≡ a.n
unfolding fields_read
n_back a b out h = ap (λ (x : Answer). x.n) (answer_back a b out h)

pub choice_back : (a : Answer) (b out : List ℕ) → Held a → a.n ≤ length b → choice_read (over (answer_bytes a b) out) ≡ take a.n b
choice_back a b out h long =
    rw (n_back a b out h, after a b out) (take_at (take a.n b) (drop (length (answer_bytes a b)) out) a.n (length-take-le a.n b long))
