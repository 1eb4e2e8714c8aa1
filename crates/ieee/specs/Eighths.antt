-- What the double of so many eighths is worth, said by whole numbers. Definitions only.
use Rattle.std.specs.Prelude.{Bool, true, false, ℤ, pos, negsuc, unsigned_abs, Float}
use Rattle.std.specs.Float.Ieee.Exact.{HasValue}

abbrev pub negative : ℤ → Bool
negative (pos n) = false
negative (negsuc n) = true

-- x is finite, has v's sign (0 has +), and its size is exactly |v| / 8
abbrev pub WorthEighths : Float → ℤ → Type 0
WorthEighths x v = HasValue x (negative v) (unsigned_abs v) 8
