-- One turn of the loop over sweeps: a stopped run stays, an open one goes on with one sweep fewer. Assumes nothing.
use Prim.Native.Nat.{ℕ, zero, suc, ◌+◌, ◌-◌, ◌*◌, ◌≤◌, ◌<◌}
use mathlib.Core.Path.{◌≡◌, refl, sym, ap, subst, ◌∙◌}
use mathlib.Core.Bool.{Bool, true, false, not, cond}
use mathlib.Core.List.{List, [], ◌∷◌}
use native.Mathlib.Nat.{mul-suc}
use native.Mathlib.Numerals.{add-one}
use native.Mathlib.Omega.{arith}
use lib.Dec.{eqb}
use lib.Ieee.{Float}
use lib.ListN.{length}
use borrow.Author.Tests.{eqb-false}
use Rattle.run_record.specs.declared.Stage.{Stage}
use Rattle.run_record.specs.declared.Stage.TheVariants.{Open, Stopped}
use Rattle.run_record.specs.declared.Run.{Run}
use Rattle.laws.specs.Refusal.{any_of}
use Rattle.factor.proofs.Shaping.{reshaped}
use Rattle.step_rules.proofs.Standing.{standing_in_few}
use Rattle.run_record.specs.Numbers.{is_stopped}
use Rattle.run_sweep.specs.Work.{Work}
use Rattle.run_sweep.specs.Sweep.{State, while_open, status_found, stage_after, advanced, run_after, swept_once, standing_once, sweeps_up_to}
use Rattle.run_sweep.specs.Running.{Running, Sweepable}

stays : (stage : Stage) (next last : State) → is_stopped stage ≡ true → while_open stage next last ≡ last
stays Open next last e = cc
stays Stopped next last e = refl

pub goes : (stage : Stage) (next last : State) → is_stopped stage ≡ false → while_open stage next last ≡ next
goes Open next last e = refl
goes Stopped next last e = cc

module _ (w : Work) (run : Run) (factor : List Float) where
  pub sweeps_none : sweeps_up_to 0 w run factor ≡ record { run = run; factor = factor }
  unfolding sweeps_up_to
  sweeps_none = refl

  pub sweeps_stop : (k : ℕ) → is_stopped run.stage ≡ true → sweeps_up_to k w run factor ≡ record { run = run; factor = factor }
  unfolding sweeps_up_to
  sweeps_stop zero e = refl
  sweeps_stop (suc k) e = stays run.stage _ _ e

  pub sweeps_next : (k made : ℕ) → made < k → is_stopped run.stage ≡ false
      → sweeps_up_to (k - made) w run factor ≡ sweeps_up_to (k - (made + 1)) w (run_after run w (swept_once w run factor) (standing_once w run factor)) (swept_once w run factor)
  unfolding sweeps_up_to
  sweeps_next k made l e =
      let one : k - made ≡ suc (k - (made + 1)) = omega arith in
      ap (λ (m : ℕ). sweeps_up_to m w run factor) one ∙ goes run.stage _ _ e

-- the most stops the run
at_most : (b : Bool) (stage : Stage) → is_stopped (cond (any_of (not b ∷ true ∷ [])) Stopped stage) ≡ false → ⊥
unfolding any_of
at_most true stage e = cc
at_most false stage e = cc

full_stops : (found : ℕ) (full : Bool) (stage : Stage) → is_stopped (stage_after found full stage) ≡ false → full ≡ false
unfolding stage_after
full_stops found false stage e = refl
full_stops found true stage e = absurd (at_most (eqb found 0) stage e)

pub one_more : (standing size sweeps left : ℕ) → standing ≤ size * sweeps → left ≤ size → standing + left ≤ size * (sweeps + 1)
one_more standing size sweeps left l m = let s : size * (sweeps + 1) ≡ size * sweeps + size = rw (add-one sweeps) (mul-suc size sweeps) in omega arith

-- so an open run has a sweep left, after each sweep too, and at most all rows stand
pub running_after : (run : Run) (w : Work) (factor : List Float) (left : ℕ) → run.sweeps < run.most → run.standing ≤ run.size * run.sweeps → left ≤ run.size
    → Running (run_after run w factor left)
unfolding run_after advanced
running_after run w factor left l s m =
    record {
      sweep_left = λ open'. omega (arith, eqb-false (run.sweeps + 1) run.most (full_stops (status_found run w factor) (eqb (run.sweeps + 1) run.most) run.stage open'));
      standing_few = one_more run.standing run.size run.sweeps left s m;
    }

-- all made
pub sweeps_made : (k made : ℕ) (w : Work) (run : Run) (factor : List Float) → made ≡ k → sweeps_up_to (k - made) w run factor ≡ record { run = run; factor = factor }
sweeps_made k made w run factor e = let none : k - made ≡ 0 = omega arith in ap (λ (m : ℕ). sweeps_up_to m w run factor) none ∙ sweeps_none w run factor

-- a turn: what is left to do from the record and the factor that it leaves is what was left
pub turn : (w : Work) (k made : ℕ) (run run' : Run) (factor factor' : List Float) (whole : State)
    → made < k → is_stopped run.stage ≡ false → run.sweeps < run.most → run.standing ≤ run.size * run.sweeps
    → factor' ≡ swept_once w run factor → run' ≡ run_after run w factor' (standing_once w run factor)
    → sweeps_up_to (k - made) w run factor ≡ whole
    → (Running run') × (sweeps_up_to (k - (made + 1)) w run' factor' ≡ whole)
turn w k made run run' factor factor' whole l open' left few swept after inv = (
  subst (λ (r : Run). Running r) (sym after)
      (running_after run w factor' (standing_once w run factor) left few (standing_in_few run.rule w.cols w.values w.starts run.size run.rank factor)),
  ap (λ (r : Run). sweeps_up_to (k - (made + 1)) w r factor') after
      ∙ ap (λ (v : List Float). sweeps_up_to (k - (made + 1)) w (run_after run w v (standing_once w run factor)) v) swept
      ∙ sym (sweeps_next w run factor k made l open') ∙ inv,
)

-- the record after a sweep, by the factor as the sweep left it
pub after_factor : (run : Run) (w : Work) (left : ℕ) {run' : Run} {factor factor' : List Float} → run' ≡ run_after run w factor left → factor' ≡ factor
    → run' ≡ run_after run w factor' left
after_factor run w left e f = e ∙ ap (λ (v : List Float). run_after run w v left) (sym f)

-- a sweep leaves size and rank, and lengths: it can go on
pub still : {w : Work} (run : Run) (left : ℕ) {run' : Run} {factor factor' : List Float} {product moved dual product' moved' dual' : ℕ} → run' ≡ run_after run w factor' left
    → length factor' ≡ length factor → product' ≡ product → moved' ≡ moved → dual' ≡ dual
    → Sweepable w run.size run.rank factor product moved dual → Sweepable w run'.size run'.rank factor' product' moved' dual'
unfolding run_after advanced
still {w} run left {run'} {factor} {factor'} {product} {moved} {dual} {product'} {moved'} {dual'} e l ep em ed s =
    subst (λ (r : Run). Sweepable w r.size r.rank factor' product' moved' dual') (sym e)
    (record {
      shaped = reshaped s.shaped l;
      fits = s.fits;
      product_is = ep ∙ s.product_is;
      moved_is = em ∙ s.moved_is;
      dual_is = ed ∙ s.dual_is;
      some = s.some;
      few = s.few;
    })
