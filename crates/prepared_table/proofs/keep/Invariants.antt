-- `prepared_table::keep` meets its contract. What is kept of the first e entries lies over the front. Assumes nothing.
use mathlib.Core.Path.{◌≡◌}
use Prim.Native.Nat.{ℕ, ◌<◌, ◌≤◌}
use lib.ListN.{length}
use Rattle.laws.specs.Lists.{elem, over, kept}
use Rattle.prepared_table.specs.Work.{stays}
use Rattle.prepared_table.proofs.keep.Given as goal

abbrev pub invariant-loop-e : goal.invariant-loop-e
invariant-loop-e g l =
    (l.at ≤ l.e)
    × ((f : ℕ → g.row.T.Denot) → ((e : ℕ) (x : g.row.T.Denot) → e < l.count → goal.F-post g l.of e x → x ≡ f e)
    → (l.at ≡ length (kept (stays l.aside (elem l.rows) (elem l.cols)) f l.e))
    × (l.out ≡ over (kept (stays l.aside (elem l.rows) (elem l.cols)) f l.e) l.initial.out))
