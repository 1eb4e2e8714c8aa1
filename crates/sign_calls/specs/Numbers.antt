-- The first number of each call on choices in words, or 0: 31, then 13. Lengths rest on m: they aren't tested where m is refused.
use Rattle.std.specs.Prelude.{Bool, List, [], ◌∷◌, ℕ, length}
use Rattle.laws.specs.Refusal.{any_of, short}
use Rattle.tables.specs.Check.{bad_signs, signs_number}
use Rattle.sign_words.specs.Size.{sign_words}

-- `distance`: the words of m signs, of either choice
unfoldable pub distance_short : ℕ → List ℕ → List ℕ → Bool
distance_short m x y = any_of (short (bad_signs m) (sign_words m) (length x) ∷ short (bad_signs m) (sign_words m) (length y) ∷ [])

unfoldable pub distance_number : ℕ → List ℕ → List ℕ → ℕ
distance_number m x y = signs_number (distance_short m x y) m

-- `pack_signs`: m signs, and room for their words
unfoldable pub pack_short : ℕ → List ℕ → List ℕ → Bool
pack_short m signs words = any_of (short (bad_signs m) m (length signs) ∷ short (bad_signs m) (sign_words m) (length words) ∷ [])

unfoldable pub pack_number : ℕ → List ℕ → List ℕ → ℕ
pack_number m signs words = signs_number (pack_short m signs words) m
