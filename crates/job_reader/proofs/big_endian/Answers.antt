-- `job_reader::big_endian` meets its contract: after i bytes the value is theirs, below 256 ^ i. Assumes nothing.
use Prim.Native.Nat.{ℕ, ◌+◌, ◌-◌, ◌*◌, ◌<◌, ◌^◌}
use mathlib.Core.Path.{◌≡◌, ◌∙◌}
use native.Mathlib.Omega.{arith}
use native.Mathlib.Nat.{lt_of_lt_of_le, pow-suc, pow-le-pow_right}
use native.Mathlib.Numerals.{add-one}
use lib.ListN.{get_or, drop}
use lib.Seq.{get_or-take, get_or-drop}
use Rattle.job_reader.specs.Bytes.{big_endian}
use Rattle.job_reader.proofs.big_endian.Goals as goal

-- seven bytes leave room for one more
room : (i value : ℕ) → i < 8 → value < 256 ^ i → value < 2 ^ 56
room i value l h = lt_of_lt_of_le h (pow-le-pow_right {n = 256} (omega arith) {i = i} {j = 7} (omega arith))

-- one more byte
next : (i value b : ℕ) → value < 256 ^ i → b < 256 → value * 256 + b < 256 ^ (i + 1)
next i value b h l = rw (add-one, pow-suc) (omega arith)

pub overflow_mul-value : goal.overflow_mul-value
overflow_mul-value c = omega (arith, room c.loop-byte.byte-index c.loop-byte.value (omega arith) c.loop-byte.invariant.0)

pub overflow_add-value : goal.overflow_add-value
overflow_add-value c = omega (arith, room c.loop-byte.byte-index c.loop-byte.value (omega arith) c.loop-byte.invariant.0, c.type_inv.bytes (c.args.at + c.loop-byte.byte-index))

pub loop-byte-preserved : goal.loop-byte-preserved
unfolding big_endian
loop-byte-preserved c = let l = c.loop-byte in
    let is : c.from.result ≡ get_or c.args.bytes.now (c.args.at + l.byte-index) 0 =
    c.from.ensures ∙ get_or-take (c.args.at + c.args.width - c.args.at) (drop c.args.at c.args.bytes.now) l.byte-index 0 (omega arith) ∙ get_or-drop c.args.at c.args.bytes.now l.byte-index 0 in (
      next l.byte-index l.value c.from.result l.invariant.0 (omega (arith, is, c.type_inv.bytes (c.args.at + l.byte-index))),
      rw (add-one, ← l.invariant.1, is),
    )
