use Prim.Native.Nat.{ℕ, ◌*◌, ◌-◌, ◌≤◌, ◌<◌}
use mathlib.Core.Path.{◌≡◌}
use lib.ListN.{length}
use Rattle.sign_words.specs.Packed.{sign_in}
use Rattle.tables.specs.Entries.{listed}
use Rattle.sign_search.specs.Clauses.{AtHand}
use Rattle.sign_search.proofs.moves.move_to.Given as goal

abbrev pub invariant-loop-i : goal.invariant-loop-i
invariant-loop-i l = AtHand (listed l.table) l.current l.current_row l.changes × (l.from ≤ 64 * length l.target) × ((j : ℕ) → j < l.from → sign_in l.current_row j ≡ sign_in l.target j)

abbrev pub decreases-loop-i : goal.decreases-loop-i
decreases-loop-i l = l.m - l.from
