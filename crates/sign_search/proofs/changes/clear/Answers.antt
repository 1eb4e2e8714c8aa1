-- `clear` meets its contract: the first m are 0, the others as they were.
-- Assumes nothing.
use Prim.Native.Nat.{ℕ, zero, suc, ◌≤◌}
use native.Mathlib.Omega.{arith}
use mathlib.Core.List.{List, [], ◌∷◌, ◌++◌}
use mathlib.Core.Path.{◌≡◌, refl, ap}
use lib.IntN.{ℤ, pos}
use lib.ListN.{length, drop, replicate}
use lib.Seq.{length-take-le}
use Rattle.laws.specs.Lists.{fill}
use Rattle.laws.specs.Rows.{map_first}
use Rattle.sign_search.proofs.changes.clear.Goals as goal

filled : (n : ℕ) (l : List ℤ) → n ≤ length l → replicate n (pos 0) ++ drop n l ≡ fill (λ i. pos 0) n l
unfolding map_first
filled zero l h = refl
filled (suc n) [] h = absurd (omega arith)
filled (suc n) (x ∷ l) h = ap (λ (r : List ℤ). pos 0 ∷ r) (filled n l (omega arith))

pub returns : goal.returns
returns c = let a = c.args in
    rw (c.fill.ensures.after (λ y e. e), length-take-le a.m a.changes.now c.requires) (filled a.m a.changes.now c.requires)
