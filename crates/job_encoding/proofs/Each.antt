-- Numbers in lists of bytes made of equal parts.
-- Assumes nothing.
use Prim.Native.Nat.{ℕ, zero, suc, ◌+◌, ◌*◌, ◌<◌, ◌≤◌}
use mathlib.Core.Path.{◌≡◌, sym, ◌∙◌}
use mathlib.Core.List.{List, [], ◌∷◌, ◌++◌, append_assoc}
use native.Mathlib.Omega.{arith}
use native.Mathlib.Nat.{suc-mul, zero-mul}
use lib.ListN.{length, get_or, length-append}
use Rattle.job_reader.specs.Bytes.{big_endian}
use Rattle.job_reader.proofs.Encode.{read_front, read_past}
use Rattle.job_encoding.specs.Encode.{each}

pub read_behind : (xs ys : List ℕ) (n at width : ℕ) → length xs ≡ n → big_endian (xs ++ ys) (n + at) width ≡ big_endian ys at width
read_behind xs ys n at width e = rw (← e) (read_past xs ys at width)

module _ {A : Type 0} (f : A → List ℕ) (size : ℕ) (sized : (x : A) → length (f x) ≡ size) where
  pub length_each : (xs : List A) → length (each f xs) ≡ length xs * size
  unfolding each
  length_each [] = sym (zero-mul size)
  length_each (x ∷ xs) = rw (length-append (f x) (each f xs), suc-mul (length xs) size) (omega (arith, sized x, length_each xs))

  pub read_each : (xs : List A) (rest : List ℕ) (d : A) (k at width : ℕ) → k < length xs → at + width ≤ size
      → big_endian (each f xs ++ rest) (k * size + at) width ≡ big_endian (f (get_or xs k d)) at width
  unfolding each
  read_each [] rest d k at width l h = absurd (omega arith)
  read_each (x ∷ xs) rest d zero at width l h =
      let e : 0 * size + at ≡ at = rw (zero-mul size) (omega arith) in
      rw (e, append_assoc (f x) (each f xs) rest) (read_front (f x) (each f xs ++ rest) at width (omega (arith, sized x)))
  read_each (x ∷ xs) rest d (suc k) at width l h =
      let e : suc k * size + at ≡ size + (k * size + at) = rw (suc-mul k size) (omega arith) in
      rw (e, append_assoc (f x) (each f xs) rest) (read_behind (f x) (each f xs ++ rest) size (k * size + at) width (sized x) ∙ read_each xs rest d k at width (omega arith) h)
