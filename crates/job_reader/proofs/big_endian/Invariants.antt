-- `job_reader::big_endian` meets its contract: after i bytes the value is theirs, below 256 ^ i. Assumes nothing.
use Prim.Native.Nat.{◌<◌, ◌^◌}
use mathlib.Core.Path.{◌≡◌}
use Rattle.job_reader.specs.Bytes.{big_endian}
use Rattle.job_reader.proofs.big_endian.Given as goal

abbrev pub invariant-loop-byte : goal.invariant-loop-byte
invariant-loop-byte l = (l.value < 256 ^ l.byte-index) × (l.value ≡ big_endian l.bytes l.at l.byte-index)
