-- A rank that open takes is at most 32. Assumes nothing.
use Prim.Native.Nat.{ℕ, ◌≤◌}
use mathlib.Core.Path.{◌≡◌}
use mathlib.Core.Bool.{false}
use lib.Dec.{ltb}
use borrow.Author.Tests.{ltb-false}
use Rattle.std.proofs.lemmas.Bool.{or_parts}
use Rattle.limits.specs.Limits.{most_rank}
use Rattle.run_record.specs.Numbers.{open_rank_refused}

pub taken_low : (rank start : ℕ) → open_rank_refused rank start ≡ false → rank ≤ most_rank
unfolding open_rank_refused
taken_low rank start e = ltb-false most_rank rank (or_parts (ltb most_rank rank) _ e).0
