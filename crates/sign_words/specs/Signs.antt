-- A choice of signs, a byte for each: 0 is +, any other −.
use Rattle.std.specs.Prelude.{ℕ, zero, suc, ◌<◌, List, set, get_or}
use Rattle.laws.specs.Lists.{elem}

-- the other sign
unfoldable pub flip_byte : ℕ → ℕ
flip_byte zero = 1
flip_byte (suc n) = 0

-- the signs with sign i flipped
unfoldable pub flip_sign : ℕ → List ℕ → List ℕ
flip_sign i x = set x i (flip_byte (get_or x i 0))

-- the bit of a sign: 0 for the byte 0, 1 for any other
abbrev pub sign_digit : ℕ → ℕ
sign_digit zero = 0
sign_digit (suc s) = 1

-- each sign is the byte 0 or 1
pub record Binary (x : List ℕ) : Type 0 where
  pub small : (i : ℕ) → elem x i < 2
