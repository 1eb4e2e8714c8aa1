-- What the calls on choices in words answer and leave.
use Rattle.std.specs.Prelude.{◌≡◌, List, ℕ, take, Result, Ok, Err}
use Rattle.laws.specs.Lists.{over}
use Rattle.table_calls.specs.Answer.{answered}
use Rattle.sign_words.specs.Size.{sign_words}
use Rattle.sign_words.specs.Packed.{packed}
use Rattle.sign_calls.specs.Numbers.{pack_number}

-- in how many bits two choices differ, or the number alone
abbrev pub distance_answer : ℕ → ℕ → Result ℕ ℕ
distance_answer number signs = answered number Err (Ok signs)

-- `pack_signs`: the number, and the first m signs in the words they take, over the front of the slice, which a refusal leaves; a longer slice keeps its
-- tail
pub record PacksSigns (m : ℕ) (signs words : List ℕ) (number : ℕ) (words' : List ℕ) : Type 0 where
  pub numbered : number ≡ pack_number m signs words
  pub refused : (number ≡ 0 → ⊥) → words' ≡ words
  pub accepted : number ≡ 0 → words' ≡ over (packed (sign_words m) (take m signs)) words
