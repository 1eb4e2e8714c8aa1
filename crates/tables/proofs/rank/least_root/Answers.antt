-- `tables::rank::least_root` meets its contract: the whole root of t - 1 is the last number whose square is below t.
use Prim.Native.Nat.{◌+◌, ◌≤◌}
use native.Mathlib.Nat.{mul-le-mul}
use native.Mathlib.Omega.{arith}
use Rattle.tables.proofs.Ranks.{root_below, root_is}
use Rattle.tables.proofs.rank.least_root.Goals as goal

pub returns-else-t-eq0 : goal.returns-else-t-eq0
returns-else-t-eq0 c = let r = c.isqrt.result in
    let below = root_below r c.args.t (omega arith) c.requires in
    (root_is _ (r + 1) (omega arith) (λ s h. let le : s ≤ r = omega arith in omega (arith, mul-le-mul le le)), omega (arith, below))
