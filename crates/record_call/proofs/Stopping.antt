-- A run that makes as many sweeps as it has left is stopped, and its record is sound all along. Assumes nothing.
--     ends    after sweeps up to the most
use Prim.Native.Nat.{ℕ, zero, suc, ◌+◌, ◌*◌, ◌≤◌, ◌<◌}
use mathlib.Core.Path.{◌≡◌, refl, sym, subst}
use mathlib.Core.Bool.{Bool, true, false, ◌&&◌}
use mathlib.Core.List.{List, [], ◌∷◌}
use native.Mathlib.Omega.{arith}
use lib.Ieee.{Float, lt}
use Rattle.laws.specs.Refusal.{◌if◌, or_else, first}
use Rattle.ieee.specs.Floats.{◌-ᶠ◌}
use Rattle.step_rules.specs.declared.StepRule.{StepRule}
use Rattle.step_rules.specs.Rule.{tests_objective}
use Rattle.step_rules.proofs.Standing.{standing_in_few}
use Rattle.run_record.specs.declared.Stage.{Stage}
use Rattle.run_record.specs.declared.Stage.TheVariants.{Open, Stopped}
use Rattle.run_record.specs.declared.Run.{Run}
use Rattle.run_record.specs.Numbers.{is_stopped}
use Rattle.run_sweep.specs.Work.{Work}
use Rattle.run_sweep.specs.Sweep.{State, while_open, absolute, stop_status, new_objective, settled_at, status_found, status_after, advanced, run_after, swept_once, standing_once, sweeps_up_to}
use Rattle.run_sweep.specs.Running.{Running}
use Rattle.run_sweep.proofs.Loop.{running_after}

-- a record of this size, rank, rule and most that a call doesn't refuse
pub record Sound (size rank : ℕ) (rule : StepRule) (most : ℕ) (run : Run) : Type 0 where
  pub size_is : run.size ≡ size
  pub rank_is : run.rank ≡ rank
  pub rule_is : run.rule ≡ rule
  pub most_is : run.most ≡ most
  pub sweeps_few : run.sweeps ≤ most
  pub status_few : run.status ≤ 2

-- and is stopped
pub record Ended (size rank : ℕ) (rule : StepRule) (most : ℕ) (run : Run) : Type 0 where
  pub sound : Sound size rank rule most run
  pub is_stopped_lem : is_stopped run.stage ≡ true
  pub total_few : run.standing ≤ run.size * run.sweeps

-- a check stops a run with 1 or 2
first_low : (a b c : Bool) → first (1 if a ∷ 1 if b ∷ 2 if c ∷ []) ≤ 2
unfolding first or_else
first_low true b c = omega arith
first_low false true c = omega arith
first_low false false true = omega arith
first_low false false false = omega arith

stop_low : (tests : Bool) (tolerance : Float) (settled : Bool) (previous new : Float) → stop_status tests tolerance settled previous new ≤ 2
unfolding stop_status
stop_low tests tolerance settled previous new =
    first_low settled (tests && lt (absolute (new -ᶠ previous)) tolerance) (tests && lt previous new)

found_low : (run : Run) (w : Work) (factor : List Float) → status_found run w factor ≤ 2
unfolding status_found
found_low run w factor =
    let settled = settled_at run w factor in
    let new = new_objective w run.size run.rank factor in
    grind (arith, stop_low (tests_objective run.rule) run.objective_tolerance settled run.last_objective new)

after_low : (found status : ℕ) → found ≤ 2 → status ≤ 2 → status_after found status ≤ 2
unfolding status_after
after_low found status f s = grind arith

-- one sweep fewer is left
more_left : (run : Run) (w : Work) (factor : List Float) (stood k : ℕ) → run.most ≤ run.sweeps + suc k
    → (run_after run w factor stood).most ≤ (run_after run w factor stood).sweeps + k
unfolding run_after advanced
more_left run w factor stood k l = omega arith

module _ {size rank : ℕ} {rule : StepRule} {most : ℕ} where
  -- one more sweep
  sound_after : (run : Run) (w : Work) (factor : List Float) (stood : ℕ) → Sound size rank rule most run → run.sweeps < run.most
      → Sound size rank rule most (run_after run w factor stood)
  unfolding run_after advanced
  sound_after run w factor stood s l =
      record {
        size_is = s.size_is;
        rank_is = s.rank_is;
        rule_is = s.rule_is;
        most_is = s.most_is;
        sweeps_few = omega (arith, s.most_is);
        status_few = after_low (status_found run w factor) run.status (found_low run w factor) s.status_few;
      }

  pub ends : (k : ℕ) (w : Work) (run : Run) (factor : List Float) → Sound size rank rule most run → Running run → run.most ≤ run.sweeps + k
      → Ended size rank rule most (sweeps_up_to k w run factor).run
  unfolding sweeps_up_to
  ends zero w run factor s left enough = record { sound = s; is_stopped_lem = go run.stage refl; total_few = left.standing_few }
    where
      go : (stage : Stage) → run.stage ≡ stage → is_stopped run.stage ≡ true
      go Open e = absurd (let l : run.sweeps < run.most = left.sweep_left (subst (λ (x : Stage). is_stopped x ≡ false) (sym e) refl) in omega arith)
      go Stopped e = subst (λ (x : Stage). is_stopped x ≡ true) (sym e) refl
  ends (suc k) w run factor s left enough =
      let swept = swept_once w run factor in
      let stood = standing_once w run factor in
      let few = standing_in_few run.rule w.cols w.values w.starts run.size run.rank factor in
      go run.stage refl (sweeps_up_to k w (run_after run w swept stood) swept)
      (λ l. ends k w (run_after run w swept stood) swept (sound_after run w swept stood s l) (running_after run w swept stood l left.standing_few few) (more_left run w swept stood k enough))
    where
      go : (stage : Stage) → run.stage ≡ stage → (next : State) → (run.sweeps < run.most → Ended size rank rule most next.run)
          → Ended size rank rule most (while_open stage next (record { run = run; factor = factor })).run
      go Open e next h = h (left.sweep_left (subst (λ (x : Stage). is_stopped x ≡ false) (sym e) refl))
      go Stopped e next h = record { sound = s; is_stopped_lem = subst (λ (x : Stage). is_stopped x ≡ true) (sym e) refl; total_few = left.standing_few }
