-- How far two choices are apart, and where.
use Rattle.std.specs.Prelude.{ℕ, ◌*◌, ◌≤◌, ◌<◌, cond, List, ◌≡◌, eqb, length, Option, Some, None}
use Rattle.std.specs.Int.{bit_at}
use Rattle.std.specs.Int.Bits.{bit_xor}
use Rattle.std.specs.Int.Count.{ones}
use Rattle.laws.specs.Lists.{elem}
use Rattle.laws.specs.Sum.{total}
use Rattle.sign_words.specs.Signs.{sign_digit}
use Rattle.sign_words.specs.Packed.{sign_in}

-- the distance between two choices in n words: the number of ones in their exclusive or
unfoldable pub ones_apart : ℕ → List ℕ → List ℕ → ℕ
ones_apart n a b = total n (λ k. ones (bit_xor (elem a k) (elem b k)))

-- the number of signs in which two choices of as many signs differ
unfoldable pub places_apart : List ℕ → List ℕ → ℕ
places_apart x y = total (length x) (λ i. cond (eqb (sign_digit (elem x i)) (sign_digit (elem y i))) 0 1)

-- the first place from `from` on and before m where f and g differ, if there is one; those in front of it are the same
pub data FirstApart (f g : ℕ → ℕ) (from m : ℕ) : Option ℕ → Type 0 where
  none : ((j : ℕ) → from ≤ j → j < m → f j ≡ g j) → FirstApart f g from m None
  first : (r : ℕ) → from ≤ r → r < m → ((j : ℕ) → from ≤ j → j < r → f j ≡ g j) → (f r ≡ g r → ⊥) → FirstApart f g from m (Some r)

-- the first bit from `from` on in which two words differ
abbrev pub BitApart : ℕ → ℕ → ℕ → Option ℕ → Type 0
BitApart a b from = FirstApart (bit_at a) (bit_at b) from 64

-- the first sign from `from` on in which two choices differ
abbrev pub SignApart : List ℕ → List ℕ → ℕ → Option ℕ → Type 0
SignApart a b from = FirstApart (sign_in a) (sign_in b) from (64 * length a)
