-- 01's example answer, computed: 00000039 01 00 02 01 00000000 0000000000000000 C000000000000028 FFFFFFFFFFFFFFF0 0000000000000000
-- FFFFFFFFFFFFFFF0 0000000000000001 01.
use mathlib.Core.Path.{◌≡◌, refl}
use mathlib.Core.List.{[], ◌∷◌, ◌++◌}
use lib.ListN.{replicate}
use lib.IntN.{pos, negsuc}
use lib.Ieee.{of_bits, to_bits, of_fields, odd, climb, size, span}
use Rattle.ieee.specs.Floats.{zero64, double_of}
use Rattle.job_reader.specs.Encode.{bytes_of}
use Rattle.answer_record.specs.Answer.{frame_bytes, count_bytes, float_bytes, eighth_bytes, answer_bytes, refusal_bytes}
use Rattle.answer_record.specs.declared.answer.Answer.{Answer}

-- status 0, rank 2, n 1, no sweeps, relaxed objective 0, float bound C000000000000028, floor −16, rounded cost 0, cost −16, 1 round
unfoldable pub example : Answer
example =
    record {
      status = 0;
      rank = 2;
      n = 1;
      sweeps = 0;
      relaxed_objective = zero64;
      float_bound = double_of 0xC000000000000028;
      floor = negsuc 15;
      rounded_cost = pos 0;
      cost = negsuc 15;
      rounds = 1;
    }

pub example_answer : answer_bytes example (1 ∷ [])
    ≡ (0 ∷ 0 ∷ 0 ∷ 0x39 ∷ 1 ∷ 0 ∷ 2 ∷ 1 ∷ 0 ∷ 0 ∷ 0 ∷ 0 ∷ []) ++ replicate 8 0 ++ (0xC0 ∷ 0 ∷ 0 ∷ 0 ∷ 0 ∷ 0 ∷ 0 ∷ 0x28 ∷ [])
    ++ (255 ∷ 255 ∷ 255 ∷ 255 ∷ 255 ∷ 255 ∷ 255 ∷ 0xF0 ∷ []) ++ replicate 8 0 ++ (255 ∷ 255 ∷ 255 ∷ 255 ∷ 255 ∷ 255 ∷ 255 ∷ 0xF0 ∷ [])
    ++ (0 ∷ 0 ∷ 0 ∷ 0 ∷ 0 ∷ 0 ∷ 0 ∷ 1 ∷ 1 ∷ [])
unfolding example bytes_of answer_bytes frame_bytes count_bytes float_bytes eighth_bytes of_bits of_fields odd to_bits size climb span
example_answer = refl

-- a refusal with number 11
pub example_refusal : refusal_bytes 11 ≡ (0 ∷ 0 ∷ 0 ∷ 2 ∷ 1 ∷ 11 ∷ [])
unfolding bytes_of refusal_bytes
example_refusal = refl
