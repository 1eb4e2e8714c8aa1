-- The record after one more sweep, from what its parts gave. Assumes nothing.
use Prim.Native.Nat.{ℕ, ◌+◌}
use mathlib.Core.Path.{◌≡◌, refl, sym, ap, ◌∙◌}
use mathlib.Core.Bool.{Bool, true, false, not, ◌&&◌}
use mathlib.Core.List.{List}
use lib.Dec.{eqb, leb}
use lib.Ieee.{Float, le}
use Rattle.std.specs.Prelude.{Option, Some, None, is_some, unwrap_or}
use Rattle.std.specs.Bool.{then_some}
use Rattle.ieee.specs.Floats.{zero64}
use Rattle.maxcut_oracle.specs.Check.{check_objective, check_residual, check_threshold}
use Rattle.step_rules.specs.Rule.{tests_objective}
use Rattle.run_record.specs.declared.Run.{Run}
use Rattle.run_sweep.specs.Work.{Work}
use Rattle.run_sweep.specs.declared.check.Stop.{Stop}
use Rattle.run_sweep.specs.declared.check.Stop.TheVariants.{Settled, Risen}
use Rattle.run_sweep.specs.Found.{found_number}
use Rattle.run_sweep.specs.Sweep.{check_due, stop_status, new_objective, stationary, settled_at, status_found, last_after, advanced, run_after}

-- where a check stops the run its number isn't 0
pub found_some : (found : Option Stop) → eqb (found_number found) 0 ≡ not (is_some found)
found_some None = refl
found_some (Some Settled) = refl
found_some (Some Risen) = refl

-- the tolerance is there where the rule tests the objective
tested : (tests : Bool) (tolerance : Float) (settled : Bool) (previous new : Float)
    → stop_status (is_some (then_some tests tolerance)) (unwrap_or (then_some tests tolerance) zero64) settled previous new ≡ stop_status tests tolerance settled previous new
unfolding stop_status
tested true tolerance settled previous new = refl
tested false tolerance settled previous new = refl

module _ (run : Run) (w : Work) (factor : List Float) (left : ℕ) where
  assemble : (last : Float) (found : ℕ) {r : Run} → last_after run w factor ≡ last → status_found run w factor ≡ found → r ≡ advanced run last found left → r ≡ run_after run w factor left
  unfolding run_after
  assemble last found l f e = e ∙ ap (λ (x : Float). advanced run x found left) (sym l) ∙ ap (λ (x : ℕ). advanced run (last_after run w factor) x left) (sym f)

  -- no check is due
  pub unchecked : {r : Run} → check_due (run.sweeps + 1) run.minimum run.most ≡ false → r ≡ advanced run run.last_objective 0 left → r ≡ run_after run w factor left
  unfolding last_after status_found
  unchecked due e = assemble run.last_objective 0 (rw due) (rw due) e

  -- a check is due
  pub checked : {tests done : Bool} {within : Option Float} {objective residual threshold : Float} {found : ℕ} {r : Run}
      → check_due (run.sweeps + 1) run.minimum run.most ≡ true
      → objective ≡ check_objective w.cols w.values w.starts run.size run.rank factor
      → residual ≡ check_residual w.cols w.values w.starts run.size run.rank factor
      → threshold ≡ check_threshold w.cols w.values w.starts run.size run.rank factor run.stationarity_tolerance
      → tests ≡ tests_objective run.rule
      → within ≡ then_some tests run.objective_tolerance
      → done ≡ (leb run.minimum (run.sweeps + 1) && le residual threshold)
      → found ≡ stop_status (is_some within) (unwrap_or within zero64) done run.last_objective objective
      → r ≡ advanced run objective found left → r ≡ run_after run w factor left
  unfolding last_after status_found settled_at new_objective stationary
  checked {tests} {done} {within} {objective} {residual} {threshold} {found} {r} due eo er et es ew ed ef e =
      let test : found ≡ stop_status tests run.objective_tolerance done run.last_objective objective = ef ∙ rw ew (tested tests _ _ _ _) in
      assemble objective found (rw due (sym eo)) (rw due (sym (test ∙ rw (es, ed, eo, er, et)))) e
