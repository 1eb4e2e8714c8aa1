-- "a longer slice keeps its tail" (01, number 31), whatever a call answers: behind the numbers that are its own, the factor; behind a byte for each
-- wagon, b; behind a multiplier for each sign, the multipliers; behind the words that a finish asks, the workspace. Assumes nothing.
use Prim.Native.Nat.{ℕ, zero, suc, ◌+◌, ◌*◌}
use mathlib.Core.Path.{◌≡◌, refl, sym, ap, ◌∙◌}
use mathlib.Core.List.{List}
use native.Mathlib.Omega.{arith}
use lib.Ieee.{Float}
use lib.ListN.{length, take, drop}
use lib.Seq.{get_or-drop, length-take-le}
use Rattle.std.specs.Prelude.{Result}
use Rattle.laws.specs.Lists.{elem}
use Rattle.laws.proofs.Parts.{over_tail}
use Rattle.limits.specs.Limits.{search_workspace}
use Rattle.run_record.specs.declared.Run.{Run}
use Rattle.run_record.specs.declared.Stage.{Stage}
use Rattle.run_record.specs.declared.Stage.TheVariants.{Open, Stopped}
use Rattle.tables.specs.CostTable.{CostTable, quadratic, linear}
use Rattle.run_sweep.specs.Work.{Work, call_work}
use Rattle.run_sweep.specs.Sweep.{State, run_after, while_open, swept_once, standing_once, sweeps_up_to}
use Rattle.run_contract.specs.declared.FinishResult.{FinishResult}
use Rattle.run_contract.specs.Calls.{Settings, open_number_of, open_size, open_rank, start_factor, Opens, used, Sweeps, answer_number, finish_choice, finish_multipliers, Finishes}
use Rattle.run_contract.specs.PlainRun.{plain_open}
use Rattle.run_contract.proofs.Accepting.{sweep_accepted}
use Rattle.run_contract.proofs.Lengths.{length_stepped, length_choice, length_multipliers}
use Rattle.run_contract.proofs.Opening.{open_whole}

-- ---- open

-- of an accepted open
pub start_long : (o : Settings) (lent : ℕ) → open_number_of o lent ≡ 0 → length (start_factor o) ≡ open_size o * open_rank o
unfolding plain_open
start_long o lent ok = open_whole o lent ok

pub open_tail : {o : Settings} {factor factor' : List Float} {answer : Result Run ℕ} → Opens o factor answer factor'
    → drop (open_size o * open_rank o) factor' ≡ drop (open_size o * open_rank o) factor
open_tail {o} {factor} {factor'} {answer} says = by (answer_number answer) refl
  where
    by : (m : ℕ) → answer_number answer ≡ m → drop (open_size o * open_rank o) factor' ≡ drop (open_size o * open_rank o) factor
    by zero e = over_tail (start_factor o) factor factor' _ (start_long o (length factor) (sym says.numbered ∙ e)) (says.accepted e).1
    by (suc m) e = ap (drop (open_size o * open_rank o)) (says.refused (λ z. omega arith))

-- ---- sweep

-- sweeps keep the factor's length
pub length_sweeps : (k : ℕ) (w : Work) (run : Run) (factor : List Float) → length (sweeps_up_to k w run factor).factor ≡ length factor
unfolding sweeps_up_to
length_sweeps zero w run factor = refl
length_sweeps (suc k) w run factor =
    go run.stage (sweeps_up_to k w (run_after run w (swept_once w run factor) (standing_once w run factor)) (swept_once w run factor))
    (length_sweeps k w (run_after run w (swept_once w run factor) (standing_once w run factor)) (swept_once w run factor)
    ∙ length_stepped run.rule w.rows w.cols w.values w.starts run.size run.rank factor)
  where
    go : (stage : Stage) (next : State) → length next.factor ≡ length factor → length (while_open stage next (record { run = run; factor = factor })).factor ≡ length factor
    go Open next e = e
    go Stopped next e = refl

pub sweep_tail : {run run' : Run} {t : CostTable} {k number : ℕ} {factor factor' : List Float} → Sweeps run t k factor number run' factor'
    → drop (used run) factor' ≡ drop (used run) factor
sweep_tail {run} {run'} {t} {k} {number} {factor} {factor'} says = by number refl
  where
    by : (m : ℕ) → number ≡ m → drop (used run) factor' ≡ drop (used run) factor
    by zero e =
        let room = (sweep_accepted run t (length factor) (sym says.numbered ∙ e)).factor_room in
        let front = take (used run) factor in
        over_tail (sweeps_up_to k (call_work t) run front).factor factor factor' _ (length_sweeps k (call_work t) run front ∙ length-take-le (used run) factor room) (says.accepted e).1
    by (suc m) e = ap (drop (used run)) (says.refused (λ z. omega arith)).1

-- ---- finish

module _ {run : Run} {t : CostTable} {width draw_count : ℕ} {draws factor : List Float} {b : List ℕ} {dual : List Float} {workspace : List ℕ}
    {answer : Result FinishResult ℕ} {b' : List ℕ} {dual' : List Float} {workspace' : List ℕ}
    (says : Finishes run t width draw_count draws factor b dual workspace answer b' dual' workspace') where
  both : (m : ℕ) → answer_number answer ≡ m → (drop t.n b' ≡ drop t.n b) × (drop (suc t.n) dual' ≡ drop (suc t.n) dual)
  both zero e =
      let a = says.accepted e in
      let v = take (used run) factor in (
        over_tail (finish_choice run t width draw_count draws v) b b' _ (length_choice t.n (quadratic t) (linear t) run.rank v draws draw_count width) a.1,
        over_tail (finish_multipliers run t v) dual dual' _ (length_multipliers t.n (quadratic t) (linear t) run.rank v) a.2,
      )
  both (suc m) e =
      let r = says.refused (λ z. omega arith) in
      (ap (drop t.n) r.0, ap (drop (suc t.n)) r.1)

  pub finish_b_tail : drop t.n b' ≡ drop t.n b
  finish_b_tail = (both (answer_number answer) refl).0

  pub finish_dual_tail : drop (suc t.n) dual' ≡ drop (suc t.n) dual
  finish_dual_tail = (both (answer_number answer) refl).1

  -- byte by byte
  pub finish_workspace_tail : (i : ℕ) → elem workspace' (search_workspace + i) ≡ elem workspace (search_workspace + i)
  finish_workspace_tail i =
      sym (get_or-drop search_workspace workspace' i 0) ∙ ap (λ (xs : List ℕ). elem xs i) says.kept ∙ get_or-drop search_workspace workspace i 0
