use Prim.Native.Nat.{ℕ, ◌+◌, ◌*◌}
use mathlib.Core.Path.{◌≡◌}
use Rattle.laws.specs.Lists.{fill}
use Rattle.job_record.proofs.arrays.read_stored.Given as goal

abbrev pub invariant-loop-i : goal.invariant-loop-i
invariant-loop-i g l = l.x-items ≡ fill (λ (i : ℕ). g.T.Stored.stored l.job (l.at + i * 8)) l.i l.initial.x-items
