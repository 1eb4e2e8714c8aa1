-- `maxcut_oracle::objective::obj` meets its contract. The sum is the definition at e. Assumes nothing.
use Prim.Native.Nat.{ℕ, suc, ◌+◌}
use mathlib.Core.Path.{◌≡◌, ◌∙◌}
use native.Mathlib.Omega.{arith}
use lib.Ieee.{Float}
use Rattle.laws.specs.Turns.{up_to}
use Rattle.maxcut_oracle.specs.Objective.{obj_four}
use Rattle.maxcut_oracle.proofs.objective.obj.Goals as goal

-- four turns at once
four-turns : (step : ℕ → Float → Float) (e : ℕ) (s₀ s : Float) → s ≡ up_to step e s₀
    → step (e + 3) (step (e + 2) (step (e + 1) (step e s))) ≡ up_to step (e + 4) s₀
unfolding up_to
four-turns step e s₀ s h =
    let one : e + 1 ≡ suc e = omega arith in
    let two : e + 2 ≡ suc (suc e) = omega arith in
    let three : e + 3 ≡ suc (suc (suc e)) = omega arith in
    let four : e + 4 ≡ suc (suc (suc (suc e))) = omega arith in
    rw (four, three, two, one, h)

pub loop-e-preserved-then-four_above : goal.loop-e-preserved-then-four_above
unfolding obj_four
loop-e-preserved-then-four_above c = let a = c.four_above.ensures c.if-four_above.true in
    (omega (arith, a.within), c.add_four-trace.ensures ∙ four-turns _ _ _ _ c.loop-e.invariant.1)
