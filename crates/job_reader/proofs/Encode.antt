-- Numbers in a list of bytes that is made of parts, and that a number as bytes is read back.
-- Assumes nothing.
use Prim.Native.Nat.{ℕ, zero, suc, ◌+◌, ◌*◌, ◌/◌, ◌%◌, ◌^◌, ◌<◌, ◌≤◌}
use mathlib.Core.Path.{◌≡◌, refl, ap, ◌∙◌}
use mathlib.Core.List.{List, [], ◌∷◌, ◌++◌}
use native.Mathlib.Omega.{arith}
use native.Mathlib.Nat.{pow-suc}
use lib.ListN.{length, get_or, length-append, get_or-append}
use lib.Seq.{get_or-append-add, get_or_at}
use lib.Dec.{T}
use lib.IntN.{ℤ}
use lib.Ieee.{Float, binary64, fits}
use lib.Ieee.Bits.{of_bits-to_bits, to_bits-lt}
use mir.Syntax.{w64}
use mir.Val.{SFits}
use mir.ValLaws.{to_z-of_z, of_z_fits}
use Rattle.ieee.specs.Floats.{double_of, bits_of, signed_of, bits_of_signed}
use Rattle.job_reader.specs.Bytes.{big_endian}
use Rattle.job_reader.specs.Encode.{bytes_of}

pub length_bytes_of : (n v : ℕ) → length (bytes_of n v) ≡ n
unfolding bytes_of
length_bytes_of zero v = refl
length_bytes_of (suc n) v = simp length-append (omega (arith, length_bytes_of n (v / 256)))

-- within the first part, and past it
pub read_front : (xs ys : List ℕ) (at n : ℕ) → at + n ≤ length xs → big_endian (xs ++ ys) at n ≡ big_endian xs at n
unfolding big_endian
read_front xs ys at zero h = refl
read_front xs ys at (suc n) h = rw (read_front xs ys at n (omega arith), get_or-append xs ys 0 (at + n) (omega arith))

pub read_past : (xs ys : List ℕ) (at n : ℕ) → big_endian (xs ++ ys) (length xs + at) n ≡ big_endian ys at n
unfolding big_endian
read_past xs ys at zero = refl
read_past xs ys at (suc n) =
    let e : length xs + at + n ≡ length xs + (at + n) = omega arith in
    rw (read_past xs ys at n, e, get_or-append-add xs ys (at + n) 0)

-- a number that n bytes hold
pub read_bytes : (n v : ℕ) → v < 256 ^ n → big_endian (bytes_of n v) 0 n ≡ v
unfolding big_endian bytes_of
read_bytes zero v h = omega arith
read_bytes (suc n) v h =
    let held : v < 256 ^ n * 256 = rw pow-suc at h in
    let fits : v / 256 < 256 ^ n = omega arith in
    let e : 0 + n ≡ n = omega arith in
    let high : big_endian (bytes_of n (v / 256) ++ (v % 256 ∷ [])) 0 n ≡ v / 256 =
    read_front (bytes_of n (v / 256)) (v % 256 ∷ []) 0 n (omega (arith, length_bytes_of n (v / 256))) ∙ read_bytes n (v / 256) fits in
    let low : get_or (bytes_of n (v / 256) ++ (v % 256 ∷ [])) (0 + n) 0 ≡ v % 256 = rw e (get_or_at (bytes_of n (v / 256)) (v % 256) [] 0 n (length_bytes_of n (v / 256))) in
    omega arith

-- a signed number and a double that their bytes hold
pub read_signed : (z : ℤ) → SFits w64 z → signed_of (big_endian (bytes_of 8 (bits_of_signed z)) 0 8) ≡ z
read_signed z h = ap signed_of (read_bytes 8 (bits_of_signed z) (of_z_fits w64 z h).fits) ∙ to_z-of_z w64 z h

pub read_double : (x : Float) → T (fits binary64 x) → double_of (big_endian (bytes_of 8 (bits_of x)) 0 8) ≡ x
read_double x h = ap double_of (read_bytes 8 (bits_of x) (to_bits-lt binary64 x h)) ∙ of_bits-to_bits binary64 x h
