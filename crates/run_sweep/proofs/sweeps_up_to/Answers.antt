use mathlib.Core.Path.{◌≡◌, sym, ap, ◌∙◌}
use mathlib.Core.List.{List}
use native.Mathlib.Omega.{arith}
use lib.Ieee.{Float}
use Rattle.run_record.specs.declared.Run.{Run}
use Rattle.run_sweep.specs.Sweep.{State}
use Rattle.run_sweep.proofs.Loop.{sweeps_made, sweeps_stop, after_factor, turn, still}
use Rattle.run_sweep.proofs.sweeps_up_to.Goals as goal

both : (run : Run) (factor : List Float) (s : State) → ◌≡◌ {A = State} (record { run = run; factor = factor }) s → (run ≡ s.run) × (factor ≡ s.factor)
both run factor s e = (ap (λ (x : State). x.run) e, ap (λ (x : State). x.factor) e)

pub returns-then-is_stopped : goal.returns-then-is_stopped
returns-then-is_stopped c = both _ _ _ (sym (sweeps_stop _ _ _ _ (sym c.is_stopped.ensures ∙ c.if-is_stopped.true)) ∙ c.loop.invariant.2)

pub loop-preserved : goal.loop-preserved
loop-preserved c = let open' = sym c.is_stopped.ensures ∙ c.if-is_stopped.false in
    let after = after_factor _ _ _ c.sweep_on-at.ensures.0 c.sweep_on-at.ensures.1 in
    let next = turn _ _ _ _ _ _ _ _ c.loop-test.true open' (c.loop.invariant.0.sweep_left open') c.loop.invariant.0.standing_few c.sweep_on-at.ensures.1 after c.loop.invariant.2 in
    (next.0, still _ _ after c.sweep_on-at.auto.factor c.sweep_on-at.auto.product c.sweep_on-at.auto.moved c.sweep_on-at.auto.dual c.loop.invariant.1, next.1)

pub returns : goal.returns
returns c = both _ _ _ (sym (sweeps_made _ _ _ _ _ (omega (arith, c.loop-test.false))) ∙ c.loop.invariant.2)
