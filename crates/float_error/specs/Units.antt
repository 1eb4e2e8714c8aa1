-- A finite double as a whole number, from its bits. Definitions only.
use Rattle.std.specs.Prelude.{ℕ, ◌%◌, ◌^◌, Float}
use Rattle.ieee.specs.Floats.{bits_of}
use Rattle.ieee.specs.Scale.{units_of_bits}

-- the magnitude of a finite double, from its bits without the sign's, in units of 2 ^ -1074
abbrev pub whole_units : Float → ℕ
whole_units x = units_of_bits (bits_of x % 2 ^ 63)
