-- Choices of two words and of four, computed.
use mathlib.Core.Path.{◌≡◌, refl}
use mathlib.Core.List.{[], ◌∷◌, ◌++◌, map}
use lib.ListN.{replicate}
use Rattle.laws.specs.Lists.{tabulate}
use Rattle.laws.specs.Refusal.{or_else, first, any_of, short}
use Rattle.tables.specs.Check.{bad_signs}
use Rattle.sign_words.specs.Size.{sign_words}
use Rattle.sign_words.specs.Packed.{word, packed}
use Rattle.sign_calls.specs.Numbers.{distance_short, distance_number}

-- how many words so many signs take
pub sizes_are : map sign_words (1 ∷ 64 ∷ 65 ∷ 128 ∷ 129 ∷ 192 ∷ 193 ∷ 256 ∷ []) ≡ (2 ∷ 2 ∷ 2 ∷ 2 ∷ 4 ∷ 4 ∷ 4 ∷ 4 ∷ [])
unfolding sign_words
sizes_are = refl

-- 129 signs, of which the first and the last are −
pub four_words : packed (sign_words 129) ((1 ∷ []) ++ replicate 127 0 ++ (1 ∷ [])) ≡ (1 ∷ 0 ∷ 1 ∷ 0 ∷ [])
unfolding sign_words packed word tabulate
four_words = refl

-- the number of `distance` at so many signs, lent choices of two words and of four
pub numbers_are : map (λ m. distance_number m (replicate 2 0) (replicate 4 0)) (0 ∷ 1 ∷ 128 ∷ 129 ∷ 256 ∷ 257 ∷ []) ≡ (13 ∷ 0 ∷ 0 ∷ 31 ∷ 31 ∷ 13 ∷ [])
unfolding distance_number distance_short sign_words bad_signs or_else first any_of short
numbers_are = refl
