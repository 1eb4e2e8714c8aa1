-- How many sweeps a plain run makes, and that it stops at its most. Assumes nothing.
use Prim.Native.Nat.{ℕ, zero, suc, ◌+◌, ◌≤◌, ◌<◌}
use mathlib.Core.Path.{◌≡◌, refl, sym, ap, ◌∙◌}
use mathlib.Core.Bool.{Bool, true, false, cond}
use mathlib.Core.Logic.{◌⊎◌, inl, inr}
use native.Mathlib.Nat.{add_comm}
use native.Mathlib.Omega.{arith}
use lib.Dec.{eqb}
use borrow.Author.Tests.{eqb-false}
use Rattle.run_record.specs.declared.Stage.{Stage}
use Rattle.run_record.specs.declared.Stage.TheVariants.{Open, Stopped}
use Rattle.run_sweep.specs.Work.{Work}
use Rattle.run_contract.specs.Schedule.{is_due}
use Rattle.run_contract.specs.Calls.{Settings}
use Rattle.run_contract.specs.PlainRun.{Plain, plain_open, plain_sweeps, if_open, swept, checked, at_most, stops, with_stop, found_status, objective_at}
use Rattle.run_contract.proofs.Follows.{turned, stopped_stays, sweeps_add}

-- an open run has a sweep left
pub record Left (p : Plain) : Type 0 where
  pub left : p.stage ≡ Open → p.sweeps < p.most

not_open : (s : Stage) → (s ≡ Open → ⊥) → s ≡ Stopped
not_open Open n = absurd (n refl)
not_open Stopped n = refl

-- ---- one sweep

-- a check leaves the number of sweeps and the most
checked_keeps : (w : Work) (p : Plain) → ((checked w p).sweeps ≡ p.sweeps) × ((checked w p).most ≡ p.most)
unfolding checked
checked_keeps w p = by (is_due p.sweeps p.minimum p.most) (found_status w p)
  where
    by : (due : Bool) (status : ℕ) → ((cond due (stops status (objective_at w p) p) p).sweeps ≡ p.sweeps) × ((cond due (stops status (objective_at w p) p) p).most ≡ p.most)
    by false status = (refl, refl)
    by true zero = (refl, refl)
    by true (suc s) = (refl, refl)

at_most_keeps : (p : Plain) → ((at_most p).sweeps ≡ p.sweeps) × ((at_most p).most ≡ p.most) × ((at_most p).stage ≡ Open → p.sweeps ≡ p.most → ⊥)
unfolding at_most
at_most_keeps p = by (eqb p.sweeps p.most) refl
  where
    by : (full : Bool) → eqb p.sweeps p.most ≡ full
        → ((cond full (with_stop p p.last Stopped p.status) p).sweeps ≡ p.sweeps) × ((cond full (with_stop p p.last Stopped p.status) p).most ≡ p.most)
        × ((cond full (with_stop p p.last Stopped p.status) p).stage ≡ Open → p.sweeps ≡ p.most → ⊥)
    by true e = (refl, refl, λ o x. cc)
    by false e = (refl, refl, λ o. eqb-false _ _ e)

swept_keeps : (w : Work) (p : Plain) → ((swept w p).sweeps ≡ p.sweeps + 1) × ((swept w p).most ≡ p.most)
unfolding swept
swept_keeps w p = (refl, refl)

turned_keeps : (w : Work) (p : Plain) → ((turned w p).sweeps ≡ p.sweeps + 1) × ((turned w p).most ≡ p.most)
turned_keeps w p =
    let s = swept_keeps w p in
    let c = checked_keeps w (swept w p) in
    let a = at_most_keeps (checked w (swept w p)) in
    (a.0 ∙ c.0 ∙ s.0, a.1 ∙ c.1 ∙ s.1)

turned_left : (w : Work) (p : Plain) → p.sweeps < p.most → Left (turned w p)
turned_left w p l =
    record {
      left = λ o.
          let s = swept_keeps w p in
          let c = checked_keeps w (swept w p) in
          let a = at_most_keeps (checked w (swept w p)) in
          let k = turned_keeps w p in
          let far : p.sweeps + 1 ≡ p.most → ⊥ = (λ e. a.2 o (c.0 ∙ s.0 ∙ e ∙ sym (c.1 ∙ s.1))) in
          omega (arith, far, k.0, k.1);
    }

-- ---- up to k of them

-- exactly k more, or fewer and it has stopped
pub sweeps_made : (k : ℕ) (w : Work) (p : Plain) → ((plain_sweeps k w p).sweeps ≡ p.sweeps + k) ⊎ (((plain_sweeps k w p).sweeps < p.sweeps + k) × ((plain_sweeps k w p).stage ≡ Stopped))
unfolding plain_sweeps
sweeps_made zero w p = inl (omega arith)
sweeps_made (suc k) w p = by p.stage refl (sweeps_made k w (turned w p)) (turned_keeps w p).0
  where
    by : (stage : Stage) → p.stage ≡ stage
        → ((plain_sweeps k w (turned w p)).sweeps ≡ (turned w p).sweeps + k) ⊎ (((plain_sweeps k w (turned w p)).sweeps < (turned w p).sweeps + k) × ((plain_sweeps k w (turned w p)).stage ≡ Stopped))
        → (turned w p).sweeps ≡ p.sweeps + 1
        → ((if_open stage (plain_sweeps k w (turned w p)) p).sweeps ≡ p.sweeps + suc k) ⊎ (((if_open stage (plain_sweeps k w (turned w p)) p).sweeps < p.sweeps + suc k) × ((if_open stage (plain_sweeps k w (turned w p)) p).stage ≡ Stopped))
    by Open e (inl x) one = inl (omega arith)
    by Open e (inr x) one = inr (omega (arith, x.0), x.1)
    by Stopped e m one = inr (omega arith, e)

pub sweeps_left : (k : ℕ) (w : Work) (p : Plain) → Left p → Left (plain_sweeps k w p) × ((plain_sweeps k w p).most ≡ p.most)
unfolding plain_sweeps
sweeps_left zero w p l = (l, refl)
sweeps_left (suc k) w p l = by p.stage refl (λ m. sweeps_left k w (turned w p) m)
  where
    by : (stage : Stage) → p.stage ≡ stage → (Left (turned w p) → Left (plain_sweeps k w (turned w p)) × ((plain_sweeps k w (turned w p)).most ≡ (turned w p).most)) → Left (if_open stage (plain_sweeps k w (turned w p)) p) × ((if_open stage (plain_sweeps k w (turned w p)) p).most ≡ p.most)
    by Open e go = let more = go (turned_left w p (l.left e)) in (more.0, more.1 ∙ (turned_keeps w p).1)
    by Stopped e go = (l, refl)

pub left_stops : (p : Plain) → Left p → p.most ≤ p.sweeps → p.stage ≡ Stopped
left_stops p l far = not_open _ (λ o. let x = l.left o in omega (arith, x, far))

-- "at the most the stage is stopped": as many sweeps as were left stop it
pub most_stops : (k : ℕ) (w : Work) (p : Plain) → Left p → p.most ≤ p.sweeps + k → (plain_sweeps k w p).stage ≡ Stopped
most_stops k w p l far = by (sweeps_made k w p)
  where
    by : ((plain_sweeps k w p).sweeps ≡ p.sweeps + k) ⊎ (((plain_sweeps k w p).sweeps < p.sweeps + k) × ((plain_sweeps k w p).stage ≡ Stopped)) → (plain_sweeps k w p).stage ≡ Stopped
    by (inl e) = let s = sweeps_left k w p l in not_open _ (λ o. let x = s.0.left o in omega (arith, s.1, x))
    by (inr x) = x.1

-- two counts of sweeps that both stop it leave the same
pub stopped_same : (a b : ℕ) (w : Work) (p : Plain) → (plain_sweeps a w p).stage ≡ Stopped → (plain_sweeps b w p).stage ≡ Stopped → plain_sweeps a w p ≡ plain_sweeps b w p
stopped_same a b w p s t =
    sym (stopped_stays b w (plain_sweeps a w p) s) ∙ sweeps_add a b w p ∙ ap (λ k. plain_sweeps k w p) (add_comm a b) ∙ sym (sweeps_add b a w p) ∙ stopped_stays a w (plain_sweeps b w p) t

-- a run just opened
pub open_left : (o : Settings) → Left (plain_open o) × ((plain_open o).most ≡ o.most) × ((plain_open o).sweeps ≡ 0)
unfolding plain_open
open_left o = (record { left = λ e. by o.most e }, refl, refl)
  where
    by : (most : ℕ) → cond (eqb most 0) Stopped Open ≡ Open → 0 < most
    by zero e = let no : ⊥ = cc in absurd no
    by (suc m) e = omega arith
