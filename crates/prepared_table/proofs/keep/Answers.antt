-- `prepared_table::keep` meets its contract. What is kept of the first e entries lies over the front. Assumes nothing.
use mathlib.Core.Bool.{Bool, true, false}
use mathlib.Core.Path.{◌∙◌}
use Prim.Native.Nat.{ℕ, ◌+◌, ◌≤◌}
use native.Mathlib.Omega.{arith}
use Rattle.laws.proofs.Made.{kept_next, kept_count}
use Rattle.laws.specs.Lists.{next_if}
use Rattle.prepared_table.proofs.keep.Goals as goal

next_near : (b : Bool) (n : ℕ) → next_if b n ≤ n + 1
next_near true n = omega arith
next_near false n = omega arith

pub loop-e-preserved : goal.loop-e-preserved
loop-e-preserved g c =
    let i = c.loop-e.invariant in
    let put = c.put_kept-at.ensures in (
      omega (arith, next_near c.stays.result c.loop-e.at),
      λ f h. let k = i.1 f h in (
        (rw c.stays.ensures at put.value) ∙ kept_count _ _ _ _ k.0,
        (rw (c.stays.ensures, h c.loop-e.e c.of.result (omega arith) c.of.ensures) at put.out_after) ∙ kept_next _ _ _ _ _ _ c.of.result k.0 (omega arith) k.1,
      ),
    )
