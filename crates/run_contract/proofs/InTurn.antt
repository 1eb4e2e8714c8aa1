-- For every list of calls with exchanges of the rule the factor is that of applying each sweep's rule in turn (02, Note 12).
--     in_turn        the factor after a list, from its log
--     rule_then      each sweep of the log was made by an accepted sweep call, over that call's table, by the rule of the last accepted exchange before it, or
--                    the open's
--     rule_stands    the rule of the state after a list is that of its last accepted exchange, or the open's
--     seen_in_turn   the same of the port: at every position of every list of calls, refused ones included
-- By induction on sweeps and calls. Assumes nothing.
use Prim.Native.Nat.{ℕ, zero, suc, ◌<◌}
use mathlib.Core.Path.{◌≡◌, refl, sym, ap, ◌∙◌}
use mathlib.Core.Bool.{Bool, true, false, cond}
use mathlib.Core.List.{List, [], ◌∷◌, ◌++◌}
use mathlib.Core.Logic.{◌⊎◌, inl, inr}
use native.Mathlib.Omega.{arith}
use lib.Dec.{eqb}
use borrow.Author.Tests.{eqb-true}
use lib.Ieee.{Float}
use lib.ListN.{length, get_or, take}
use Rattle.std.specs.Prelude.{Ok}
use Rattle.step_rules.specs.declared.StepRule.{StepRule}
use Rattle.step_rules.specs.Rule.{stepped}
use Rattle.run_record.specs.declared.Run.{Run}
use Rattle.run_record.specs.declared.Stage.{Stage}
use Rattle.run_record.specs.declared.Stage.TheVariants.{Open, Stopped}
use Rattle.run_sweep.specs.Work.{Work, call_work}
use Rattle.run_sweep.specs.Sweep.{State, advanced, run_after}
use Rattle.run_contract.specs.Calls.{Settings, Opens, used, open_size, open_rank, start_factor}
use Rattle.run_contract.specs.PlainRun.{Plain, Call, sweep, finish, exchange, plain_open, swept_factor, with_rule, plain_sweeps, if_open, acted, record_of, plain_number, plain_after, Seen, plain_seen, plain_trace}
use Rattle.run_contract.specs.Chain.{Chain}
use Rattle.run_contract.specs.Log.{Made, made_from, if_open_made, made, accepted, made_by, log, plain_end, Among, applied, rule_by, rule_after, MadeIn}
use Rattle.run_contract.proofs.Follows.{state_of, turned, turns}
use Rattle.run_contract.proofs.OnLists.{plain_run}
use Rattle.run_contract.proofs.Counting.{turned_size, among_split}
use Rattle.run_contract.proofs.EachSweep.{of_list}

-- ---- what one sweep with its check does to factor, size, rank and rule

turned_factor : (w : Work) (p : Plain) → (turned w p).factor ≡ swept_factor w p
unfolding state_of record_of
turned_factor w p = ap (λ (s : State). s.factor) (turns w p)

turned_rank : (w : Work) (p : Plain) → (turned w p).rank ≡ p.rank
unfolding state_of record_of run_after advanced
turned_rank w p = ap (λ (s : State). s.run.rank) (turns w p)

turned_rule : (w : Work) (p : Plain) → (turned w p).rule ≡ p.rule
unfolding state_of record_of run_after advanced
turned_rule w p = ap (λ (s : State). s.run.rule) (turns w p)

-- ---- one state to another by some sweeps: size and rank stay, and the factor is that of the sweeps in turn

record Turned (p q : Plain) (sweeps : List Made) : Type 0 where
  size_is : q.size ≡ p.size
  rank_is : q.rank ≡ p.rank
  factor_is : q.factor ≡ applied p.size p.rank sweeps p.factor

applied_append : (m rank : ℕ) (xs ys : List Made) (factor : List Float) → applied m rank (xs ++ ys) factor ≡ applied m rank ys (applied m rank xs factor)
unfolding applied
applied_append m rank [] ys factor = refl
applied_append m rank (s ∷ xs) ys factor = applied_append m rank xs ys (stepped s.rule s.work.rows s.work.cols s.work.values s.work.starts m rank factor)

turned_none : (p : Plain) → Turned p p []
unfolding applied
turned_none p = record { size_is = refl; rank_is = refl; factor_is = refl }

turned_join : (p q r : Plain) (xs ys : List Made) → Turned p q xs → Turned q r ys → Turned p r (xs ++ ys)
turned_join p q r xs ys a b =
    record {
      size_is = b.size_is ∙ a.size_is;
      rank_is = b.rank_is ∙ a.rank_is;
      factor_is =
          b.factor_is ∙ ap (λ (m : ℕ). applied m q.rank ys q.factor) a.size_is ∙ ap (λ (k : ℕ). applied p.size k ys q.factor) a.rank_is
          ∙ ap (λ (f : List Float). applied p.size p.rank ys f) a.factor_is ∙ sym (applied_append p.size p.rank xs ys p.factor);
    }

turned_one : (w : Work) (p : Plain) → Turned p (turned w p) (made_from w p ∷ [])
unfolding applied swept_factor
turned_one w p = record { size_is = turned_size w p; rank_is = turned_rank w p; factor_is = turned_factor w p }

turned_ruled : (p : Plain) (rule : StepRule) → Turned p (with_rule p rule) []
unfolding applied with_rule
turned_ruled p rule = record { size_is = refl; rank_is = refl; factor_is = refl }

turned_list : (p : Plain) (calls : List Call) → Turned p (plain_end p calls) (log p calls)
turned_list = of_list Turned turned_none turned_join turned_one turned_ruled

pub in_turn : (p : Plain) (calls : List Call) → (plain_end p calls).factor ≡ applied p.size p.rank (log p calls) p.factor
in_turn p calls = (turned_list p calls).factor_is

-- ---- which rule that is

sweeps_rule : (k : ℕ) (w : Work) (p : Plain) → (plain_sweeps k w p).rule ≡ p.rule
unfolding plain_sweeps
sweeps_rule zero w p = refl
sweeps_rule (suc k) w p =
    let more = sweeps_rule k w (turned w p) ∙ turned_rule w p in
    elim p.stage as (λ stage. (if_open stage (plain_sweeps k w (turned w p)) p).rule ≡ p.rule) [ Open ↦ more | Stopped ↦ refl ]

accepted_rule : (p : Plain) (call : Call) → (acted p call).rule ≡ rule_by 0 call p.rule
unfolding with_rule
accepted_rule p (sweep s) = sweeps_rule s.k (call_work s.table) p
accepted_rule p (finish f) = refl
accepted_rule p (exchange e) = refl

-- the rule by whether the call is accepted
abbrev rule_if : Bool → Call → StepRule → StepRule
rule_if ok call rule = cond ok (rule_by 0 call rule) rule

rule_if_lem : (number : ℕ) (call : Call) (rule : StepRule) → rule_if (eqb number 0) call rule ≡ rule_by number call rule
rule_if_lem number (sweep s) rule = elim (eqb number 0) as (λ ok. cond ok rule rule ≡ rule) [ true ↦ refl | false ↦ refl ]
rule_if_lem number (finish f) rule = elim (eqb number 0) as (λ ok. cond ok rule rule ≡ rule) [ true ↦ refl | false ↦ refl ]
rule_if_lem number (exchange e) rule = refl

after_rule : (p : Plain) (call : Call) → (plain_after p call).rule ≡ rule_by (plain_number p call) call p.rule
unfolding plain_after
after_rule p call =
    elim (eqb (plain_number p call) 0) as (λ ok. (cond ok (acted p call) p).rule ≡ rule_if ok call p.rule) [ true ↦ accepted_rule p call | false ↦ refl ]
    ∙ rule_if_lem (plain_number p call) call p.rule

pub rule_stands : (p : Plain) (calls : List Call) → (plain_end p calls).rule ≡ rule_after p calls p.rule
unfolding plain_end rule_after
rule_stands p [] = refl
rule_stands p (call ∷ calls) = rule_stands (plain_after p call) calls ∙ ap (λ (rule : StepRule). rule_after (plain_after p call) calls rule) (after_rule p call)

-- the sweeps of one call are by the rule of its state, over its table
record ByRule (p : Plain) (w : Work) (s : Made) : Type 0 where
  table_there : s.work ≡ w
  rule_there : s.rule ≡ p.rule

by_rule : (k : ℕ) (w : Work) (p : Plain) (s : Made) → Among s (made k w p) → ByRule p w s
unfolding made
by_rule zero w p s a = absurd a
by_rule (suc k) w p s a = go p.stage (by_rule k w (turned w p) s) a
  where
    go : (stage : Stage) → (Among s (made k w (turned w p)) → ByRule (turned w p) w s) → Among s (if_open_made stage (made_from w p ∷ made k w (turned w p))) → ByRule p w s
    go Open rest (inl e) = record { table_there = ap (λ (x : Made). x.work) e; rule_there = ap (λ (x : Made). x.rule) e }
    go Open rest (inr b) = let r = rest b in record { table_there = r.table_there; rule_there = r.rule_there ∙ turned_rule w p }
    go Stopped rest b = absurd b

-- a sweep that a call makes: it is an accepted sweep call
made_of : (p : Plain) (call : Call) (calls : List Call) (s : Made) → eqb (plain_number p call) 0 ≡ true → Among s (accepted p call) → MadeIn p (call ∷ calls) s
unfolding plain_end rule_after
made_of p (sweep x) calls s e b =
    let r = by_rule x.k (call_work x.table) p s b in
    record { front = []; call = x; back = calls; split = refl; accepted_there = eqb-true (plain_number p (sweep x)) 0 e; table_is = r.table_there; rule_is = r.rule_there }
made_of p (finish f) calls s e b = absurd b
made_of p (exchange y) calls s e b = absurd b

made_here : (p : Plain) (call : Call) (calls : List Call) (s : Made) → Among s (made_by p call) → MadeIn p (call ∷ calls) s
unfolding made_by
made_here p call calls s a = go (eqb (plain_number p call) 0) refl a
  where
    go : (ok : Bool) → eqb (plain_number p call) 0 ≡ ok → Among s (cond ok (accepted p call) []) → MadeIn p (call ∷ calls) s
    go true e b = made_of p call calls s e b
    go false e b = absurd b

made_later : (p : Plain) (call : Call) (calls : List Call) (s : Made) → MadeIn (plain_after p call) calls s → MadeIn p (call ∷ calls) s
unfolding plain_end rule_after
made_later p call calls s m =
    record {
      front = call ∷ m.front;
      call = m.call;
      back = m.back;
      split = ap (λ (l : List Call). call ∷ l) m.split;
      accepted_there = m.accepted_there;
      table_is = m.table_is;
      rule_is = m.rule_is ∙ ap (λ (rule : StepRule). rule_after (plain_after p call) m.front rule) (after_rule p call);
    }

pub rule_then : (p : Plain) (calls : List Call) (s : Made) → Among s (log p calls) → MadeIn p calls s
unfolding log
rule_then p [] s a = absurd a
rule_then p (call ∷ calls) s a = go (among_split s (made_by p call) (log (plain_after p call) calls) a) (rule_then (plain_after p call) calls s)
  where
    go : Among s (made_by p call) ⊎ Among s (log (plain_after p call) calls) → (Among s (log (plain_after p call) calls) → MadeIn (plain_after p call) calls s) → MadeIn p (call ∷ calls) s
    go (inl b) rest = made_here p call calls s b
    go (inr b) rest = made_later p call calls s (rest b)

-- ---- of the port, at every position of a list

factor_at_lem : (p : Plain) (calls : List Call) (k : ℕ) (d : Seen) → k < length calls → (get_or (plain_trace p calls) k d).factor ≡ (plain_end p (take (suc k) calls)).factor
unfolding plain_seen plain_end
factor_at_lem p [] k d l = absurd (omega arith)
factor_at_lem p (call ∷ calls) zero d l = refl
factor_at_lem p (call ∷ calls) (suc k) d l = factor_at_lem (plain_after p call) calls k d (omega arith)

open_factor : (o : Settings) (sweeps : List Made) → applied (plain_open o).size (plain_open o).rank sweeps (plain_open o).factor ≡ applied (open_size o) (open_rank o) sweeps (start_factor o)
unfolding plain_open
open_factor o sweeps = refl

pub seen_in_turn : (o : Settings) (factor factor' : List Float) (run : Run) (calls : List Call) (seen : List Seen) → Opens o factor (Ok run) factor'
    → Chain run (take (used run) factor') calls seen → (k : ℕ) (d : Seen) → k < length calls
    → (get_or seen k d).factor ≡ applied (open_size o) (open_rank o) (log (plain_open o) (take (suc k) calls)) (start_factor o)
seen_in_turn o factor factor' run calls seen opens chain k d l =
    ap (λ (s : List Seen). (get_or s k d).factor) (plain_run o factor factor' run calls seen opens chain)
    ∙ factor_at_lem (plain_open o) calls k d l
    ∙ in_turn (plain_open o) (take (suc k) calls)
    ∙ open_factor o (log (plain_open o) (take (suc k) calls))
