-- Demand 3's last sentence, one statement on the whole list: from an accepted open, every chain of sweep, finish and exchange calls, refused
-- ones included, is seen as 01's plain run has it. By induction on the list. Assumes nothing.
use Prim.Native.Nat.{ℕ, zero, suc, ◌*◌, ◌≤◌}
use mathlib.Core.Path.{◌≡◌, refl, sym, ap, ◌∙◌, subst}
use mathlib.Core.Bool.{cond}
use mathlib.Core.List.{List, ◌∷◌, ◌++◌, append-nil}
use mathlib.Core.Option.{Option, some, none}
use native.Mathlib.Omega.{arith}
use lib.ListN.{length, take, drop, take-append-drop, drop_of_length-le}
use lib.Seq.{take_all, take_at}
use lib.Dec.{eqb}
use lib.Ieee.{Float}
use borrow.Author.Tests.{eq-eqb, ne_eqb}
use Rattle.std.specs.Result.{result_unwrap_or}
use Rattle.std.specs.Prelude.{Result, Ok, Err}
use Rattle.laws.specs.Lists.{over}
use Rattle.laws.proofs.Any.{cond_same}
use Rattle.run_record.specs.declared.Run.{Run}
use Rattle.run_record.specs.declared.Stage.TheVariants.{Open, Stopped}
use Rattle.tables.specs.CostTable.{quadratic, linear}
use Rattle.run_record.specs.Numbers.{sweep_number, finish_number}
use Rattle.step_rules.specs.Rule.{rule_of}
use Rattle.run_sweep.specs.Work.{Work, call_work}
use Rattle.run_sweep.specs.Sweep.{State, sweeps_up_to, advanced, run_after}
use Rattle.run_contract.specs.declared.FinishResult.{FinishResult}
use Rattle.run_contract.specs.Calls.{Settings, Opens, Sweeps, used, Finishes, finish_lengths, finish_result, finish_choice, finish_multipliers, answer_number, exchanged, Exchanges}
use Rattle.run_contract.specs.PlainRun.{Plain, SweepCall, FinishCall, ExchangeCall, Call, sweep, finish, exchange, plain_open, with_rule, swept_factor, plain_sweeps, if_open, record_of, lengths_of, plain_number, plain_after, Given, finish_of, Seen, seen_at, plain_seen, plain_trace}
use Rattle.run_contract.specs.Chain.{Lends, kept_after, seen_of, given_of, Sized, Chain, ends, sweeps, finishes, exchanges}
use Rattle.run_contract.proofs.Accepting.{sweep_accepted, finish_accepted}
use Rattle.run_contract.proofs.Lengths.{length_stepped, length_choice, length_multipliers}
use Rattle.run_contract.proofs.Follows.{state_of, turned, turns, sweeps_follow}
use Rattle.run_contract.proofs.Opening.{Whole, open_whole, plain_open_lem}

-- ---- kept and lent

-- a lent slice that a call leaves as it was leaves the kept factor as it was
pub kept_stays : (kept : List Float) (lent : ℕ) (factor : List Float) → Lends kept lent factor → kept_after kept lent factor ≡ kept
kept_stays kept lent factor l = ap (λ (a : List Float). a ++ drop lent kept) l.same ∙ take-append-drop lent kept

-- a lent slice that is long enough begins with the kept factor
pub lent_whole : (kept : List Float) (lent : ℕ) (factor : List Float) → Lends kept lent factor → length kept ≤ lent → take (length kept) factor ≡ kept
lent_whole kept lent factor l long = l.same ∙ take_all lent kept long

-- and what is written there is kept
pub kept_written : (kept : List Float) (lent : ℕ) (new factor : List Float) → length kept ≤ lent → length new ≡ length kept → kept_after kept lent (over new factor) ≡ new
kept_written kept lent new factor long same =
    ap (λ (a : List Float). a ++ drop lent kept) (take_at new (drop (length new) factor) (length kept) same) ∙ ap (λ (a : List Float). new ++ a) (drop_of_length-le kept long) ∙ append-nil new

-- the factor that an accepted call is lent
lent_factor : (p : Plain) (lent : ℕ) (factor : List Float) → Whole p → Lends p.factor lent factor → p.size * p.rank ≤ lent → take (p.size * p.rank) factor ≡ p.factor
lent_factor p lent factor w l room = rw w at (lent_whole p.factor lent factor l (rw w room))

-- ---- sweeps change neither the size nor the rank, nor the factor's length

abbrev pub Keeps : Plain → Plain → Type 0
Keeps p q = (length q.factor ≡ length p.factor) × (q.size ≡ p.size) × (q.rank ≡ p.rank)

pub whole_kept : (p q : Plain) → Keeps p q → Whole p → Whole q
whole_kept p q k w = k.0 ∙ w ∙ (cc)

keeps_turned : (w : Work) (p : Plain) → Keeps p (turned w p)
unfolding state_of record_of run_after advanced swept_factor
keeps_turned w p =
    let e = turns w p in
    (ap (λ (s : State). length s.factor) e ∙ length_stepped p.rule _ _ _ _ p.size p.rank p.factor, ap (λ (s : State). s.run.size) e, ap (λ (s : State). s.run.rank) e)

pub keeps_sweeps : (k : ℕ) (w : Work) (p : Plain) → Keeps p (plain_sweeps k w p)
unfolding plain_sweeps
keeps_sweeps zero w p = (refl, refl, refl)
keeps_sweeps (suc k) w p =
    let one = keeps_turned w p in
    let more = keeps_sweeps k w (turned w p) in
    elim p.stage as (λ stage. Keeps p (if_open stage (plain_sweeps k w (turned w p)) p)) [ Open ↦ (more.0 ∙ one.0, more.1 ∙ one.1, more.2 ∙ one.2) | Stopped ↦ (refl, refl, refl) ]

-- ---- a sweep call from a plain run's state

module _ (p : Plain) (call : SweepCall) (factor : List Float) (number : ℕ) (run' : Run) (factor' : List Float) (w : Whole p)
    (lends : Lends p.factor call.factor_length factor) (says : Sweeps (record_of p) call.table call.k factor number run' factor') where
  sweep_number_lem : number ≡ plain_number p (sweep call)
  unfolding plain_number
  sweep_number_lem = says.numbered ∙ ap (sweep_number (record_of p) call.table) lends.sized

  -- record and factor that the call leaves
  abbrev Left : Plain → Type 0
  Left q = (run' ≡ record_of q) × (kept_after p.factor call.factor_length factor' ≡ q.factor) × Whole q

  sweep_stays : (number ≡ 0 → ⊥) → Left p
  sweep_stays n =
      let r = says.refused n in
      (r.0, ap (kept_after p.factor call.factor_length) r.1 ∙ kept_stays p.factor call.factor_length factor lends, w)

  sweep_acts : number ≡ 0 → Left (plain_sweeps call.k (call_work call.table) p)
  unfolding record_of state_of plain_number
  sweep_acts z =
      let a = says.accepted z in
      let t = call_work call.table in
      let room : p.size * p.rank ≤ call.factor_length = (sweep_accepted (record_of p) call.table call.factor_length (sym sweep_number_lem ∙ z)).factor_room in
      let state = ap (λ (v : List Float). sweeps_up_to call.k t (record_of p) v) (lent_factor p call.factor_length factor w lends room) ∙ sweeps_follow call.k t p in
      let keeps = keeps_sweeps call.k t p in (
        a.0 ∙ ap (λ (s : State). s.run) state,
        ap (kept_after p.factor call.factor_length) (a.1 ∙ ap (λ (s : State). over s.factor factor) state)
            ∙ kept_written p.factor call.factor_length (plain_sweeps call.k t p).factor factor (rw w room) keeps.0,
        whole_kept p (plain_sweeps call.k t p) keeps w,
      )

  sweep_by : (m : ℕ) → number ≡ m → Left (plain_after p (sweep call))
  unfolding plain_after
  sweep_by zero e = rw (eq-eqb _ _ (sym sweep_number_lem ∙ e)) (sweep_acts e)
  sweep_by (suc m) e = let n : number ≡ 0 → ⊥ = (λ z. omega arith) in rw (ne_eqb (plain_number p (sweep call)) 0 (λ z. n (sweep_number_lem ∙ z))) (sweep_stays n)

  sweep_left : Left (plain_after p (sweep call))
  sweep_left = sweep_by number refl

  sweep_seen : seen_of number none run' (kept_after p.factor call.factor_length factor') ≡ plain_seen p (sweep call)
  unfolding plain_seen
  sweep_seen = rw (sweep_left.0, sweep_left.1, sweep_number_lem, cond_same {A = Option Given} (eqb (plain_number p (sweep call)) 0) none)

-- ---- a finish call from a plain run's state

module _ (p : Plain) (call : FinishCall) (factor : List Float) (b : List ℕ) (dual : List Float) (workspace : List ℕ) (answer : Result FinishResult ℕ) (b' : List ℕ) (dual' : List Float) (workspace' : List ℕ) (w : Whole p)
    (lends : Lends p.factor call.factor_length factor) (sized : Sized call b dual workspace)
    (says : Finishes (record_of p) call.table call.width call.draw_count call.draws factor b dual workspace answer b' dual' workspace') where
  lengths_lent : finish_lengths call.draws factor b dual workspace ≡ lengths_of call
  lengths_lent = rw (lends.sized, sized.b_sized, sized.dual_sized, sized.workspace_sized)

  finish_number_lem : answer_number answer ≡ plain_number p (finish call)
  unfolding plain_number
  finish_number_lem = says.numbered ∙ ap (finish_number (record_of p) call.table call.width call.draw_count) lengths_lent

  abbrev gives : List Float → Given
  gives v =
      record {
        result = finish_result (record_of p) call.table call.width call.draw_count call.draws v;
        b = finish_choice (record_of p) call.table call.width call.draw_count call.draws v;
        dual = finish_multipliers (record_of p) call.table v;
      }

  -- what an accepted finish gives is the definition at the plain run's factor
  finish_gives : answer_number answer ≡ 0 → given_of answer call.table.n b' dual' ≡ some (finish_of p call)
  unfolding finish_of record_of plain_number
  finish_gives z =
      let a = says.accepted z in
      let t = call.table in
      let v = take (p.size * p.rank) factor in
      let room : p.size * p.rank ≤ call.factor_length = (finish_accepted (record_of p) t call.width call.draw_count (lengths_of call) (sym finish_number_lem ∙ z)).factor_room in
      let bytes : take t.n b' ≡ finish_choice (record_of p) t call.width call.draw_count call.draws v =
      ap (take t.n) a.1 ∙ take_at _ _ _ (length_choice t.n (quadratic t) (linear t) p.rank v call.draws call.draw_count call.width) in
      let multipliers : take (suc t.n) dual' ≡ finish_multipliers (record_of p) t v =
      ap (take (suc t.n)) a.2 ∙ take_at _ _ _ (length_multipliers t.n (quadratic t) (linear t) p.rank v) in
      ap (λ (x : Result FinishResult ℕ). given_of x t.n b' dual') a.0
      ∙ ap (λ (bs : List ℕ). some (record { result = (gives v).result; b = bs; dual = take (suc t.n) dual' })) bytes
      ∙ ap (λ (ds : List Float). some (record { result = (gives v).result; b = (gives v).b; dual = ds })) multipliers
      ∙ ap (λ (u : List Float). some (gives u)) (lent_factor p call.factor_length factor w lends room)

  -- a refused one gives nothing
  gives_none : (x : Result FinishResult ℕ) → (answer_number x ≡ 0 → ⊥) → given_of x call.table.n b' dual' ≡ none
  gives_none (Ok result) n = absurd (n refl)
  gives_none (Err number) n = refl

  finish_by : (m : ℕ) → answer_number answer ≡ m
      → (given_of answer call.table.n b' dual' ≡ cond (eqb (plain_number p (finish call)) 0) (some (finish_of p call)) none) × (p ≡ plain_after p (finish call))
  unfolding plain_after
  finish_by zero e = rw (eq-eqb _ _ (sym finish_number_lem ∙ e)) (finish_gives e, refl)
  finish_by (suc m) e =
      let n : answer_number answer ≡ 0 → ⊥ = (λ z. omega arith) in
      rw (ne_eqb (plain_number p (finish call)) 0 (λ z. n (finish_number_lem ∙ z))) (gives_none answer n, refl)

  finish_seen : seen_of (answer_number answer) (given_of answer call.table.n b' dual') (record_of p) p.factor ≡ plain_seen p (finish call)
  unfolding plain_seen
  finish_seen =
      let both = finish_by (answer_number answer) refl in
      ap (λ (q : Plain). seen_at (answer_number answer) (given_of answer call.table.n b' dual') q) both.1
      ∙ ap (λ (m : ℕ). seen_at m (given_of answer call.table.n b' dual') (plain_after p (finish call))) finish_number_lem
      ∙ ap (λ (g : Option Given). seen_at (plain_number p (finish call)) g (plain_after p (finish call))) both.0

-- ---- an exchange from a plain run's state

module _ (p : Plain) (call : ExchangeCall) (number : ℕ) (run' : Run) (w : Whole p) (says : Exchanges (record_of p) call.rule call.number number run') where
  exchange_number_lem : number ≡ plain_number p (exchange call)
  unfolding plain_number
  exchange_number_lem = says.numbered

  -- the record that the call leaves; the factor is as it was
  abbrev After : Plain → Type 0
  After q = (run' ≡ record_of q) × (p.factor ≡ q.factor) × Whole q

  exchange_acts : number ≡ 0 → After (with_rule p (rule_of call.rule call.number))
  unfolding record_of exchanged with_rule
  exchange_acts z = (says.accepted z, refl, w)

  exchange_by : (m : ℕ) → number ≡ m → After (plain_after p (exchange call))
  unfolding plain_after
  exchange_by zero e = rw (eq-eqb _ _ (sym exchange_number_lem ∙ e)) (exchange_acts e)
  exchange_by (suc m) e = let n : number ≡ 0 → ⊥ = (λ z. omega arith) in rw (ne_eqb (plain_number p (exchange call)) 0 (λ z. n (exchange_number_lem ∙ z))) (says.refused n, refl, w)

  pub exchange_left : After (plain_after p (exchange call))
  exchange_left = exchange_by number refl

  exchange_seen : seen_of number none run' p.factor ≡ plain_seen p (exchange call)
  unfolding plain_seen
  exchange_seen =
      ap (λ (r : Run). seen_of number none r p.factor) exchange_left.0
      ∙ ap (λ (v : List Float). seen_of number none (record_of (plain_after p (exchange call))) v) exchange_left.1
      ∙ ap (λ (m : ℕ). seen_at m none (plain_after p (exchange call))) exchange_number_lem
      ∙ ap (λ (g : Option Given). seen_at (plain_number p (exchange call)) g (plain_after p (exchange call))) (sym (cond_same (eqb (plain_number p (exchange call)) 0) none))

-- ---- the list

-- from any state of the plain run
pub follows : {run : Run} {kept : List Float} {calls : List Call} {seen : List Seen} → Chain run kept calls seen
    → (p : Plain) → Whole p → run ≡ record_of p → kept ≡ p.factor → seen ≡ plain_trace p calls
follows ends p w r f = refl
follows (sweeps {call = call} {calls = calls} {seen = seen} factor number run' factor' lends says chain) p w r f =
    let lends' = subst (λ (v : List Float). Lends v call.factor_length factor) f lends in
    let says' = subst (λ (h : Run). Sweeps h call.table call.k factor number run' factor') r says in
    let left = sweep_left p call factor number run' factor' w lends' says' in
    let kept' = ap (λ (v : List Float). kept_after v call.factor_length factor') f in
    ap (λ (v : List Float). seen_of number none run' v ∷ seen) kept'
    ∙ ap (λ (x : Seen). x ∷ seen) (sweep_seen p call factor number run' factor' w lends' says')
    ∙ ap (λ (xs : List Seen). plain_seen p (sweep call) ∷ xs) (follows chain (plain_after p (sweep call)) left.2 left.0 (kept' ∙ left.1))
follows (finishes {kept = kept} {call = call} {calls = calls} {seen = seen} factor b dual workspace answer b' dual' workspace' lends sized says chain) p w r f =
    let lends' = subst (λ (v : List Float). Lends v call.factor_length factor) f lends in
    let says' = subst (λ (h : Run). Finishes h call.table call.width call.draw_count call.draws factor b dual workspace answer b' dual' workspace') r says in
    let stays = (finish_by p call factor b dual workspace answer b' dual' workspace' w lends' sized says' (answer_number answer) refl).1 in
    ap (λ (h : Run). seen_of (answer_number answer) (given_of answer call.table.n b' dual') h kept ∷ seen) r
    ∙ ap (λ (v : List Float). seen_of (answer_number answer) (given_of answer call.table.n b' dual') (record_of p) v ∷ seen) f
    ∙ ap (λ (x : Seen). x ∷ seen) (finish_seen p call factor b dual workspace answer b' dual' workspace' w lends' sized says')
    ∙ ap (λ (xs : List Seen). plain_seen p (finish call) ∷ xs) (follows chain p w r f ∙ ap (λ (q : Plain). plain_trace q calls) stays)
follows (exchanges {call = call} {calls = calls} {seen = seen} number run' says chain) p w r f =
    let says' = subst (λ (h : Run). Exchanges h call.rule call.number number run') r says in
    let left = exchange_left p call number run' w says' in
    ap (λ (v : List Float). seen_of number none run' v ∷ seen) f
    ∙ ap (λ (x : Seen). x ∷ seen) (exchange_seen p call number run' w says')
    ∙ ap (λ (xs : List Seen). plain_seen p (exchange call) ∷ xs) (follows chain (plain_after p (exchange call)) left.2 left.0 (f ∙ left.1))

-- an accepted open: its record, and the factor that it leaves, are the plain run's
pub opened_one : (o : Settings) (lent : List Float) (run : Run) (left : List Float) → Opens o lent (Ok run) left
    → (run ≡ record_of (plain_open o)) × (take (used run) left ≡ (plain_open o).factor) × Whole (plain_open o)
unfolding record_of
opened_one o lent run left opens =
    let one = plain_open_lem o lent (Ok run) left opens in
    let ok = one.0 run refl in
    let started : run ≡ record_of (plain_open o) = ap (λ (r : Result Run ℕ). result_unwrap_or r run) (one.1 ok).0 in
    (started, ap (λ (h : Run). take (used h) left) started ∙ (one.1 ok).1, open_whole o (length lent) ok)

-- from an accepted open, whatever start, rule, settings and tables
pub plain_run : (o : Settings) (factor factor' : List Float) (run : Run) (calls : List Call) (seen : List Seen)
    → Opens o factor (Ok run) factor'
    → Chain run (take (used run) factor') calls seen
    → seen ≡ plain_trace (plain_open o) calls
plain_run o factor factor' run calls seen opens chain = let one = opened_one o factor run factor' opens in follows chain (plain_open o) one.2 one.0 one.1
