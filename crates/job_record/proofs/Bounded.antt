-- A field that is not refused is there, and within its limit.
-- Assumes nothing.
use Prim.Native.Nat.{ℕ, suc, ◌+◌, ◌≤◌}
use mathlib.Core.Path.{◌≡◌}
use mathlib.Core.List.{List}
use borrow.Author.Tests.{ltb-false}
use lib.ListN.{length}
use Rattle.laws.proofs.Refusal.{clear, first_head, first_rest}
use Rattle.job_reader.specs.Bytes.{big_endian}
use Rattle.job_record.specs.Number.{bounded_number}

pub bounded_passed : (s : List ℕ) (at width most k : ℕ) → bounded_number s at width most (suc k) ≡ 0 → (at + width ≤ length s) × (big_endian s at width ≤ most)
unfolding bounded_number
bounded_passed s at width most k e =
    let there = ltb-false (length s) (at + width) (clear _ 10 (first_head _ _ e)) in
    let low = ltb-false most (big_endian s at width) (clear _ k (first_head _ _ (first_rest _ _ e))) in
    (there, low)
