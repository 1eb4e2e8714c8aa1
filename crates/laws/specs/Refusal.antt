-- Refusals: the number that is answered, 0 where nothing is refused (01, "Numbers from the input" and "Numbers from the state").
use Rattle.std.specs.Prelude.{ℕ, zero, suc, Bool, true, false, List, [], ◌∷◌, ltb}

-- `31 if b`: the number where its condition holds
infix 80 ◌if◌
abbrev pub ◌if◌ : ℕ → Bool → ℕ
k if true = k
k if false = 0

-- the first of two refusals
unfoldable pub or_else : ℕ → ℕ → ℕ
or_else zero b = b
or_else (suc a) b = suc a

-- the first refusal of an ordered list
unfoldable pub first : List ℕ → ℕ
unfolding or_else
first [] = 0
first (k ∷ rest) = or_else k (first rest)

-- the first refusal of f 0, f 1, .., f (i - 1)
unfoldable pub first_of : (ℕ → ℕ) → ℕ → ℕ
first_of f zero = 0
first_of f (suc i) = or_else (first_of f i) (f i)

-- one of the conditions holds
unfoldable pub any_of : List Bool → Bool
any_of [] = false
any_of (true ∷ rest) = true
any_of (false ∷ rest) = any_of rest

-- 31: a lent slice is shorter than needed; a length that rests on a number which is itself refused isn't tested
unfoldable pub short : Bool → ℕ → ℕ → Bool
short true needed lent = false
short false needed lent = ltb lent needed
