-- What is claimed of each of the runs, read off the plain definition for every list of turns. Assumes nothing.
use Prim.Native.Nat.{ℕ, ◌+◌, ◌/◌, ◌≤◌, ◌<◌}
use mathlib.Core.Path.{◌≡◌, refl, sym, ap, ◌∙◌, subst}
use mathlib.Core.Bool.{Bool, true, false, cond}
use mathlib.Core.List.{List, [], ◌∷◌, ◌++◌}
use mathlib.Core.Logic.{◌⊎◌, inl, inr}
use native.Mathlib.Nat.{le-div_iff_mul-le}
use native.Mathlib.Omega.{arith}
use lib.Dec.{eqb}
use lib.Ieee.{Float}
use borrow.Author.Tests.{eqb-true, eqb-false, eq-eqb}
use Rattle.laws.specs.Refusal.{first, or_else}
use Rattle.run_record.specs.declared.Stage.{Stage}
use Rattle.run_record.specs.declared.Stage.TheVariants.{Open, Stopped}
use Rattle.run_record.specs.declared.Run.{Run}
use Rattle.tables.specs.CostTable.{CostTable}
use Rattle.run_record.specs.Numbers.{is_stopped, sweep_number, member_number}
use Rattle.run_sweep.specs.Work.{call_work}
use Rattle.run_contract.specs.Calls.{Settings}
use Rattle.run_contract.specs.Chain.{Chain}
use Rattle.run_contract.specs.PlainRun.{Plain, SweepCall, Call, sweep, Seen, plain_open, plain_sweeps, plain_number, plain_after, plain_trace, record_of, finish_of}
use Rattle.run_contract.proofs.Follows.{stopped_stays, sweeps_add}
use Rattle.several_runs.specs.Turn.{Tables, run_at, only_open, open_below, share, share_of}
use Rattle.several_runs.specs.Shared.{TurnCall, TurnSeen, TurnChain, runs_left, factors_left, kept_at, OpenedAll, work_at, shared_number, shared_share, gets, shared_after, shared_end, accepted_in, got, Makes, alone_at, Shared, OnEveryList}
use Rattle.several_runs.proofs.Plains.{Left, left_stops, sweeps_made, sweeps_left, most_stops, stopped_same, open_left}
use Rattle.several_runs.proofs.Counted.{open_below_le, open_below_some, turn_many}
use Rattle.several_runs.proofs.OnTurns.{several_runs, then_seen, turn_good, few_runs, after_accepted, after_refused}

-- ---- an open run gets a sweep

share_some : (sweeps runs place : ℕ) → 1 ≤ runs → runs ≤ sweeps → 1 ≤ share sweeps runs place
unfolding share
share_some sweeps runs place some few =
    let one : 1 ≤ sweeps / runs = (le-div_iff_mul-le {k = runs} {x = 1} {y = sweeps} some).1 (omega arith) in
    omega (arith, one)

pub open_gets : (count : ℕ) (t : Tables) (at : ℕ → Plain) (call : TurnCall) (i : ℕ) → i < count → (at i).stage ≡ Open → shared_number count t at call ≡ 0 → 1 ≤ shared_share count t at call i
unfolding shared_number shared_share share_of record_of
open_gets count t at call i l e ok =
    let records : ℕ → Run = (λ j. record_of (at j)) in
    let some = open_below_some records count i l e in
    let many = turn_many call.sweeps (turn_good call.sweeps count records t call.factors_length ok) in
    let few = few_runs call.sweeps count records t call.factors_length ok in
    let below = open_below_le records count in
    subst (λ (stage : Stage). 1 ≤ only_open stage (share call.sweeps (open_below records count) (open_below records i))) (sym e)
    (share_some call.sweeps (open_below records count) (open_below records i) some (omega arith))

made : (k a b : ℕ) (stage : Stage) → 1 ≤ k → (b ≡ a + k) ⊎ ((b < a + k) × (stage ≡ Stopped)) → (a + 1 ≤ b) ⊎ (stage ≡ Stopped)
made k a b stage l (inl e) = inl (omega arith)
made k a b stage l (inr x) = inr x.1

-- ---- every list

module _ (count : ℕ) (t : Tables) where
  -- the turn after a list
  end_next : (at : ℕ → Plain) (calls : List TurnCall) (call : TurnCall) (i : ℕ) → shared_end count t at (calls ++ (call ∷ [])) i ≡ shared_after count t (shared_end count t at calls) call i
  end_next at [] call i = refl
  end_next at (first ∷ calls) call i = end_next (shared_after count t at first) calls call i

  stopped_after : (at : ℕ → Plain) (call : TurnCall) (i : ℕ) → (at i).stage ≡ Stopped → shared_after count t at call i ≡ at i
  unfolding shared_after
  stopped_after at call i e = stopped_stays (gets count t at call i) (work_at count t i) (at i) e

  stopped_end : (at : ℕ → Plain) (calls : List TurnCall) (i : ℕ) → (at i).stage ≡ Stopped → (shared_end count t at calls i).stage ≡ Stopped
  stopped_end at [] i e = e
  stopped_end at (call ∷ calls) i e = stopped_end (shared_after count t at call) calls i (ap (λ (p : Plain). p.stage) (stopped_after at call i e) ∙ e)

  pub so_far : (at : ℕ → Plain) (calls : List TurnCall) (i : ℕ) → shared_end count t at calls i ≡ plain_sweeps (got count t at calls i) (work_at count t i) (at i)
  unfolding plain_sweeps shared_after
  so_far at [] i = refl
  so_far at (call ∷ calls) i = so_far (shared_after count t at call) calls i ∙ sweeps_add (gets count t at call i) (got count t (shared_after count t at call) calls i) (work_at count t i) (at i)

  left_after : (at : ℕ → Plain) (call : TurnCall) (i : ℕ) → Left (at i) → Left (shared_after count t at call i) × ((shared_after count t at call i).most ≡ (at i).most)
  unfolding shared_after
  left_after at call i l = sweeps_left (gets count t at call i) (work_at count t i) (at i) l

  -- an accepted turn brings an open run a sweep further, or stops it
  further : (at : ℕ → Plain) (call : TurnCall) (i : ℕ) → i < count → shared_number count t at call ≡ 0
      → ((at i).sweeps + 1 ≤ (shared_after count t at call i).sweeps) ⊎ ((shared_after count t at call i).stage ≡ Stopped)
  further at call i l z = by (at i).stage refl
    where
      by : (stage : Stage) → (at i).stage ≡ stage → ((at i).sweeps + 1 ≤ (shared_after count t at call i).sweeps) ⊎ ((shared_after count t at call i).stage ≡ Stopped)
      by Stopped e = inr (ap (λ (p : Plain). p.stage) (stopped_after at call i e) ∙ e)
      by Open e =
          rw (after_accepted count t at call z i)
          (made _ _ _ _ (open_gets count t at call i l e z) (sweeps_made (shared_share count t at call i) (work_at count t i) (at i)))

  pub all_stop : (at : ℕ → Plain) (calls : List TurnCall) (i : ℕ) → i < count → Left (at i) → (at i).most ≤ (at i).sweeps + accepted_in count t at calls
      → (shared_end count t at calls i).stage ≡ Stopped
  all_stop at [] i l left far = left_stops (at i) left (omega arith)
  all_stop at (call ∷ calls) i l left far =
      let next = left_after at call i left in
      by (eqb (shared_number count t at call) 0) refl far (λ m. all_stop (shared_after count t at call) calls i l next.0 m) next.1
    where
      by : (fine : Bool) → eqb (shared_number count t at call) 0 ≡ fine → (at i).most ≤ (at i).sweeps + (cond fine 1 0 + accepted_in count t (shared_after count t at call) calls)
          → ((shared_after count t at call i).most ≤ (shared_after count t at call i).sweeps + accepted_in count t (shared_after count t at call) calls → (shared_end count t (shared_after count t at call) calls i).stage ≡ Stopped)
          → (shared_after count t at call i).most ≡ (at i).most → (shared_end count t (shared_after count t at call) calls i).stage ≡ Stopped
      by true e far go m = moved (further at call i l (eqb-true _ _ e))
        where
          moved : ((at i).sweeps + 1 ≤ (shared_after count t at call i).sweeps) ⊎ ((shared_after count t at call i).stage ≡ Stopped) → (shared_end count t (shared_after count t at call) calls i).stage ≡ Stopped
          moved (inl x) = go (omega (arith, m, far, x))
          moved (inr s) = stopped_end (shared_after count t at call) calls i s
      by false e far go m =
          let same = ap (λ (p : Plain). p.sweeps) (after_refused count t at call (eqb-false _ _ e) i) in
          go (omega (arith, m, far, same))

  module _ (o : ℕ → Settings) (calls : List TurnCall) (i : ℕ) (l : i < count) where
    abbrev opened : ℕ → Plain
    opened j = plain_open (o j)

    alone : (shared_end count t opened calls i).stage ≡ Stopped → shared_end count t opened calls i ≡ alone_at count t o i
    alone s =
        let p = open_left (o i) in
        so_far opened calls i
        ∙ stopped_same (got count t opened calls i) (o i).most (work_at count t i) (plain_open (o i)) (ap (λ (p : Plain). p.stage) (sym (so_far opened calls i)) ∙ s)
        (most_stops (o i).most (work_at count t i) (plain_open (o i)) p.0 (omega (arith, p.1, p.2)))

    pub shared : Shared count t o calls i
    shared =
        record {
          exact = λ call ok.
              subst (Makes count t (shared_share count t (shared_end count t opened calls) call i) (shared_end count t opened calls i))
              (sym (end_next opened calls call i ∙ after_accepted count t (shared_end count t opened calls) call ok i))
              (sweeps_made (shared_share count t (shared_end count t opened calls) call i) (work_at count t i) (shared_end count t opened calls i));
          ends = λ far. let p = open_left (o i) in all_stop opened calls i l p.0 (omega (arith, p.1, p.2, far));
          so_far = so_far opened calls i;
          alone = alone;
          choice = λ s f. ap (λ (p : Plain). finish_of p f) (alone s);
        }

    -- so that finishes of the port after the turns, for every table, width and draws, give what they give of the run alone
    pub port_alone : {runs : List Run} {kept : List Float} {seen : List TurnSeen} (chain : TurnChain count t runs kept calls seen) → OpenedAll count o runs kept
        → (shared_end count t opened calls i).stage ≡ Stopped → (later : List Call) (seen' : List Seen)
        → Chain (run_at (runs_left chain) i) (kept_at (runs_left chain) (factors_left chain) i) later seen'
        → seen' ≡ plain_trace (alone_at count t o i) later
    port_alone chain all s later seen' more = then_seen chain o all i l later seen' more ∙ ap (λ (p : Plain). plain_trace p later) (alone s)

-- ---- from accepted opens, every list of turns

pub every_list : (count : ℕ) (t : Tables) (o : ℕ → Settings) (runs : List Run) (kept : List Float) (calls : List TurnCall) (seen : List TurnSeen)
    → OpenedAll count o runs kept → TurnChain count t runs kept calls seen → OnEveryList count t o calls seen
every_list count t o runs kept calls seen opened chain =
    record { seen_so = several_runs count t o runs kept calls seen opened chain; each = λ i l. shared count t o calls i l }

-- ---- the run alone is one sweep call

stage_of : (p : Plain) (stage : Stage) → p.stage ≡ stage → is_stopped (record_of p).stage ≡ is_stopped stage
unfolding record_of
stage_of p stage e = ap is_stopped e

-- an open run's number is that of a sweep call
pub open_member : (run : Run) (table : CostTable) (lent : ℕ) → is_stopped run.stage ≡ false → sweep_number run table lent ≡ member_number run table lent
unfolding sweep_number member_number first or_else
open_member run table lent e = rw e

-- the call, of a run that a turn would take: a stopped one is refused with 32 and stays
pub one_call : (p : Plain) (call : SweepCall) → member_number (record_of p) call.table call.factor_length ≡ 0
    → plain_after p (sweep call) ≡ plain_sweeps call.k (call_work call.table) p
unfolding plain_after plain_number
one_call p call ok = by p.stage refl
  where
    same : (b : Bool) {x : Plain} → x ≡ p → cond b x p ≡ x
    same true e = refl
    same false e = sym e

    by : (stage : Stage) → p.stage ≡ stage → cond (eqb (sweep_number (record_of p) call.table call.factor_length) 0) (plain_sweeps call.k (call_work call.table) p) p ≡ plain_sweeps call.k (call_work call.table) p
    by Open e = rw (eq-eqb (sweep_number (record_of p) call.table call.factor_length) 0 (open_member (record_of p) call.table call.factor_length (stage_of p Open e) ∙ ok))
    by Stopped e = same (eqb (sweep_number (record_of p) call.table call.factor_length) 0) (stopped_stays call.k (call_work call.table) p e)
