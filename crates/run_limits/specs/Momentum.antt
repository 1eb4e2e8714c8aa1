-- Momentum, rule 4's number (01, "Roots, rows, rules").
use Rattle.std.specs.Prelude.{Bool, ◌&&◌, Float}
use Rattle.std.specs.Float.Ieee.{le, lt}
use Rattle.ieee.specs.Floats.{zero64, one64}

-- finite, 0 ≤ beta < 1; a NaN is in no order
abbrev pub is_momentum : Float → Bool
is_momentum beta = le zero64 beta && lt beta one64
