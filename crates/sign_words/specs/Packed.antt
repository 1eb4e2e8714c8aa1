-- A choice of signs in words of 64 bits: bit i mod 64 of word i div 64 is set for the sign −, and the bits behind the last sign are 0.
-- The number of words is that of the list.
use Rattle.std.specs.Prelude.{ℕ, zero, suc, ◌+◌, ◌*◌, ◌/◌, ◌%◌, ◌^◌, ◌≤◌, ◌<◌, List, ◌≡◌, set}
use Rattle.std.specs.Int.{bit_at}
use Rattle.std.specs.Int.Bits.{bit_xor}
use Rattle.laws.specs.Lists.{elem, tabulate}
use Rattle.sign_words.specs.Signs.{flip_sign, sign_digit}

-- sign i
unfoldable pub sign_in : List ℕ → ℕ → ℕ
sign_in words i = bit_at (elem words (i / 64)) (i % 64)

-- the first m signs, a byte for each
unfoldable pub unpacked : ℕ → List ℕ → List ℕ
unpacked m words = tabulate (sign_in words) m

-- the number with the bits f 0, .., f (n - 1), from the low end
unfoldable pub word : (ℕ → ℕ) → ℕ → ℕ
word f zero = 0
word f (suc n) = f 0 + 2 * word (λ i. f (suc i)) n

-- bit j of word k; 0 behind the last sign
abbrev pub digit_at : List ℕ → ℕ → ℕ → ℕ
digit_at x k j = sign_digit (elem x (64 * k + j))

-- the signs x in n words
unfoldable pub packed : ℕ → List ℕ → List ℕ
packed n x = tabulate (λ k. word (digit_at x k) 64) n

-- the words with sign i flipped
unfoldable pub flip_in : ℕ → List ℕ → List ℕ
flip_in i words = set words (i / 64) (bit_xor (elem words (i / 64)) (2 ^ (i % 64)))

-- unused bits are 0: none is set behind the first m
pub record Tidy (m : ℕ) (words : List ℕ) : Type 0 where
  pub unused : (i : ℕ) → m ≤ i → sign_in words i ≡ 0

-- what a flip of sign i leaves, of any m signs that it is one of
pub record Flipped (i : ℕ) (before after : List ℕ) : Type 0 where
  pub signs : (m : ℕ) → i < m → unpacked m after ≡ flip_sign i (unpacked m before)
  pub tidy : (m : ℕ) → i < m → Tidy m before → Tidy m after

-- what packing m signs leaves
pub record Packs (m : ℕ) (x words : List ℕ) : Type 0 where
  pub signs : (i : ℕ) → i < m → sign_in words i ≡ sign_digit (elem x i)
  pub tidy : Tidy m words
