-- The answer record (01, "Job and answer records"): its bytes, and what a reader finds in them. Big-endian; floats as bits, every NaN as
-- 7FF8000000000000.
use Rattle.std.specs.Prelude.{ℕ, ◌+◌, ◌^◌, ◌<◌, List, ◌++◌, T, take, drop, ℤ, Float}
use Rattle.std.specs.Float.{binary64}
use Rattle.std.specs.Float.Ieee.{fits}
use Rattle.std.specs.Int.{w64}
use Rattle.std.proofs.Common.{SFits}
use Rattle.ieee.specs.Floats.{bits_of, bits_of_signed}
use Rattle.job_reader.specs.Bytes.{big_endian, signed_at, double_at}
use Rattle.job_reader.specs.Encode.{bytes_of}
use Rattle.answer_record.specs.declared.answer.Answer.{Answer}

-- length of the rest (4), version 1 (1)
unfoldable pub frame_bytes : ℕ → List ℕ
frame_bytes n = bytes_of 4 (56 + n) ++ bytes_of 1 1

-- status (1), rank (1), n (1), sweeps (4)
unfoldable pub count_bytes : ℕ → ℕ → ℕ → ℕ → List ℕ
count_bytes status rank n sweeps = bytes_of 1 status ++ bytes_of 1 rank ++ bytes_of 1 n ++ bytes_of 4 sweeps

-- relaxed objective (8), float bound (8)
unfoldable pub float_bytes : Float → Float → List ℕ
float_bytes relaxed bound = bytes_of 8 (bits_of relaxed) ++ bytes_of 8 (bits_of bound)

-- floor, rounded cost, cost (8 signed eighths each), rounds (8)
unfoldable pub eighth_bytes : ℤ → ℤ → ℤ → ℕ → List ℕ
eighth_bytes floor rounded cost rounds =
    bytes_of 8 (bits_of_signed floor) ++ bytes_of 8 (bits_of_signed rounded) ++ bytes_of 8 (bits_of_signed cost) ++ bytes_of 8 rounds

-- these, then b (1 each)
unfoldable pub answer_bytes : Answer → List ℕ → List ℕ
answer_bytes a b =
    frame_bytes a.n
    ++ count_bytes a.status a.rank a.n a.sweeps
    ++ float_bytes a.relaxed_objective a.float_bound
    ++ eighth_bytes a.floor a.rounded_cost a.cost a.rounds
    ++ take a.n b

-- 00000002 01 and the number
unfoldable pub refusal_bytes : ℕ → List ℕ
refusal_bytes number = bytes_of 4 2 ++ bytes_of 1 1 ++ bytes_of 1 number

-- what a reader of answers finds: the fields, and b
unfoldable pub fields_read : List ℕ → Answer
fields_read s =
    record {
      status = big_endian s 5 1;
      rank = big_endian s 6 1;
      n = big_endian s 7 1;
      sweeps = big_endian s 8 4;
      relaxed_objective = double_at s 12;
      float_bound = double_at s 20;
      floor = signed_at s 28;
      rounded_cost = signed_at s 36;
      cost = signed_at s 44;
      rounds = big_endian s 52 8;
    }

abbrev pub choice_read : List ℕ → List ℕ
choice_read s = take (big_endian s 7 1) (drop 60 s)

-- the fields fit their bytes; those of every accepted job do (`held` of record_call)
pub record Held (a : Answer) : Type 0 where
  pub status : a.status < 2 ^ 8
  pub rank : a.rank < 2 ^ 8
  pub n : a.n < 2 ^ 8
  pub sweeps : a.sweeps < 2 ^ 32
  pub relaxed : T (fits binary64 a.relaxed_objective)
  pub bound : T (fits binary64 a.float_bound)
  pub floor : SFits w64 a.floor
  pub rounded : SFits w64 a.rounded_cost
  pub cost : SFits w64 a.cost
  pub rounds : a.rounds < 2 ^ 64
