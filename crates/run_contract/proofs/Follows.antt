-- The port's sweeps on record and factor are the plain run's. Assumes nothing.
use Prim.Native.Nat.{ℕ, zero, suc, ◌+◌}
use mathlib.Core.Path.{◌≡◌, refl, sym, ap, ◌∙◌}
use mathlib.Core.Bool.{Bool, true, false, not, cond}
use mathlib.Core.List.{[], ◌∷◌}
use native.Mathlib.Nat.{zero-add, suc-add}
use lib.Dec.{eqb, eqb-suc-zero}
use lib.Ieee.{Float}
use Rattle.laws.specs.Refusal.{any_of}
use Rattle.run_record.specs.declared.Stage.{Stage}
use Rattle.run_record.specs.declared.Stage.TheVariants.{Open, Stopped}
use Rattle.run_sweep.specs.Work.{Work}
use Rattle.step_rules.specs.Rule.{tests_objective}
use Rattle.run_sweep.specs.Sweep.{State, check_due, stop_status, new_objective, stationary, settled_at, status_found, last_after, stage_after, status_after, advanced, run_after, while_open, sweeps_up_to}
use Rattle.run_contract.specs.Schedule.{is_due}
use Rattle.run_contract.specs.PlainRun.{Plain, swept_factor, rows_left, swept, with_stop, stops, look_at, found_status, objective_at, checked, at_most, if_open, plain_sweeps, record_of}
use Rattle.run_contract.proofs.Scheduled.{due_same, momentum_none, verdict_same}

-- record and factor of a plain run's state
unfoldable pub state_of : Plain → State
state_of p = record { run = record_of p; factor = p.factor }

-- the state after one sweep with its check
abbrev pub turned : Work → Plain → Plain
turned w p = at_most (checked w (swept w p))

-- the port's record in one go, by what the check found and whether the sweeps are at the most
abbrev state_made : Work → Plain → Bool → Bool → ℕ → Float → State
state_made w p due full status new =
    record {
      run = record {
        size = p.size;
        rank = p.rank;
        rule = p.rule;
        sweeps = p.sweeps + 1;
        last_objective = cond due new p.last;
        objective_tolerance = p.objective_tolerance;
        stationarity_tolerance = p.stationarity_tolerance;
        most = p.most;
        minimum = p.minimum;
        stage = cond (any_of (not (eqb (cond due status 0) 0) ∷ full ∷ [])) Stopped p.stage;
        status = cond (eqb (cond due status 0) 0) p.status (cond due status 0);
        standing = p.standing + rows_left w p;
      };
      factor = swept_factor w p;
    }

abbrev closing : Bool → Plain → Plain
closing full p = cond full (with_stop p p.last Stopped p.status) p

closes : (w : Work) (p : Plain) (due full : Bool) (status : ℕ) (new : Float) → state_of (closing full (cond due (stops status new (swept w p)) (swept w p))) ≡ state_made w p due full status new
unfolding state_of record_of swept any_of
closes w p false false status new = refl
closes w p false true status new = refl
closes w p true false zero new = refl
closes w p true true zero new = refl
closes w p true false (suc s) new = simp eqb-suc-zero
closes w p true true (suc s) new = simp eqb-suc-zero

turns_at : (w : Work) (p : Plain) (due : Bool) (status : ℕ) (new : Float)
    → state_of (at_most (cond due (stops status new (swept w p)) (swept w p))) ≡ state_made w p due (eqb (p.sweeps + 1) p.most) status new
unfolding at_most swept
turns_at w p false status new = closes w p false (eqb (p.sweeps + 1) p.most) status new
turns_at w p true zero new = closes w p true (eqb (p.sweeps + 1) p.most) zero new
turns_at w p true (suc s) new = closes w p true (eqb (p.sweeps + 1) p.most) (suc s) new

-- the check after one more sweep finds what the port's does
abbrev port_objective : Work → Plain → Float
port_objective w p = new_objective w p.size p.rank (swept_factor w p)

abbrev port_status : Work → Plain → ℕ
port_status w p = stop_status (tests_objective p.rule) p.objective_tolerance (settled_at (record_of p) w (swept_factor w p)) p.last (port_objective w p)

objective_same : (w : Work) (p : Plain) → objective_at w (swept w p) ≡ port_objective w p
unfolding objective_at swept new_objective
objective_same w p = refl

found_same : (w : Work) (p : Plain) → found_status w (swept w p) ≡ port_status w p
unfolding look_at objective_at swept settled_at stationary new_objective record_of
found_same w p =
    verdict_same (look_at w (swept w p))
    ∙ ap (λ (tests : Bool). stop_status tests p.objective_tolerance (settled_at (record_of p) w (swept_factor w p)) p.last (port_objective w p)) (momentum_none p.rule)

-- one sweep: the plain run's three steps are the record that the port makes
pub turns : (w : Work) (p : Plain) → state_of (turned w p) ≡ record { run = run_after (record_of p) w (swept_factor w p) (rows_left w p); factor = swept_factor w p }
unfolding checked swept run_after advanced status_found last_after stage_after status_after record_of
turns w p =
    let full = eqb (p.sweeps + 1) p.most in
    turns_at w p (is_due (p.sweeps + 1) p.minimum p.most) (found_status w (swept w p)) (objective_at w (swept w p))
    ∙ ap (λ (due : Bool). state_made w p due full (found_status w (swept w p)) (objective_at w (swept w p))) (due_same (p.sweeps + 1) p.minimum p.most)
    ∙ ap (λ (status : ℕ). state_made w p (check_due (p.sweeps + 1) p.minimum p.most) full status (objective_at w (swept w p))) (found_same w p)
    ∙ ap (λ (new : Float). state_made w p (check_due (p.sweeps + 1) p.minimum p.most) full (port_status w p) new) (objective_same w p)

by_stage : (stage : Stage) (a : State) (next p : Plain) → a ≡ state_of next → while_open stage a (state_of p) ≡ state_of (if_open stage next p)
by_stage Open a next p e = e
by_stage Stopped a next p e = refl

-- up to k of them
pub sweeps_follow : (k : ℕ) (w : Work) (p : Plain) → sweeps_up_to k w (record_of p) p.factor ≡ state_of (plain_sweeps k w p)
unfolding sweeps_up_to plain_sweeps state_of record_of swept_factor rows_left
sweeps_follow zero w p = refl
sweeps_follow (suc k) w p =
    by_stage p.stage _ (plain_sweeps k w (turned w p)) p
    (ap (λ (s : State). sweeps_up_to k w s.run s.factor) (sym (turns w p)) ∙ sweeps_follow k w (turned w p))

-- a sweeps and then b over one table are a + b: a run that has stopped stays
pub stopped_stays : (b : ℕ) (w : Work) (p : Plain) → p.stage ≡ Stopped → plain_sweeps b w p ≡ p
unfolding plain_sweeps
stopped_stays zero w p e = refl
stopped_stays (suc b) w p e = ap (λ (stage : Stage). if_open stage (plain_sweeps b w (turned w p)) p) e

pub sweeps_add : (a b : ℕ) (w : Work) (p : Plain) → plain_sweeps b w (plain_sweeps a w p) ≡ plain_sweeps (a + b) w p
unfolding plain_sweeps
sweeps_add zero b w p = rw (zero-add b)
sweeps_add (suc a) b w p = rw (suc-add a b) (by p.stage refl (sweeps_add a b w (turned w p)))
  where
    by : (stage : Stage) → p.stage ≡ stage → plain_sweeps b w (plain_sweeps a w (turned w p)) ≡ plain_sweeps (a + b) w (turned w p)
        → plain_sweeps b w (if_open stage (plain_sweeps a w (turned w p)) p) ≡ if_open stage (plain_sweeps (a + b) w (turned w p)) p
    by Open e more = more
    by Stopped e more = stopped_stays b w p e
