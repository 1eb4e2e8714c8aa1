-- The bits of 2.0.
use Prim.Native.Nat.{ℕ}

abbrev pub two_bits : ℕ
two_bits = 0x4000_0000_0000_0000
