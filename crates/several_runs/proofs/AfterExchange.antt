-- Turns after an exchange of a run's rule (02, Notes 11 and 12): they are seen as those of plain runs of which that one has taken the exchange, an
-- accepted or a refused one. Assumes nothing.
use Prim.Native.Nat.{ℕ, ◌<◌}
use mathlib.Core.Path.{◌≡◌, refl, sym, ◌∙◌, subst}
use mathlib.Core.Bool.{Bool, true, false, cond}
use mathlib.Core.List.{List}
use lib.Dec.{eqb}
use lib.Ieee.{Float}
use borrow.Author.Tests.{eqb-true, eqb-false}
use Rattle.run_record.specs.declared.Run.{Run}
use Rattle.run_contract.specs.Calls.{Settings, Exchanges}
use Rattle.run_contract.specs.PlainRun.{Plain, ExchangeCall, exchange, plain_open, plain_after, record_of}
use Rattle.run_contract.proofs.Opening.{Whole}
use Rattle.run_contract.proofs.OnLists.{exchange_left}
use Rattle.several_runs.specs.Turn.{Tables, run_at}
use Rattle.several_runs.specs.Shared.{TurnCall, TurnSeen, TurnChain, runs_left, factors_left, OpenedAll, shared_trace, shared_end, exchanged_at, OneExchanged}
use Rattle.several_runs.proofs.Joined.{joined_ext}
use Rattle.several_runs.proofs.OnTurns.{Follow, opened_follow, turns_follow, turns_leave}

module _ {count : ℕ} {runs runs' : List Run} {kept : List Float} {at : ℕ → Plain} {i : ℕ} {call : ExchangeCall} {number : ℕ}
    (f : Follow count runs kept at) (one : OneExchanged count runs i call number runs') where
  -- what is left of run j
  abbrev Left : ℕ → Plain → Type 0
  Left j q = (run_at runs' j ≡ record_of q) × ((at j).factor ≡ q.factor) × Whole q

  taken : Left i (plain_after (at i) (exchange call))
  taken =
      exchange_left (at i) call number (run_at runs' i) (f.whole i one.within)
      (subst (λ (h : Run). Exchanges h call.rule call.number number (run_at runs' i)) (f.same i one.within) one.says)

  left : (j : ℕ) → j < count → (here : Bool) → eqb j i ≡ here → Left j (cond here (plain_after (at j) (exchange call)) (at j))
  left j l true e = subst (λ (k : ℕ). Left k (plain_after (at k) (exchange call))) (sym (eqb-true j i e)) taken
  left j l false e = (one.others j l (eqb-false j i e) ∙ f.same j l, refl, f.whole j l)

  -- the plain runs, of which run i took the exchange, are followed as before
  pub exchange_follow : Follow count runs' kept (exchanged_at at i call)
  exchange_follow =
      record {
        long = one.room;
        same = λ j l. (left j l (eqb j i) refl).0;
        kept_is = f.kept_is ∙ joined_ext (λ j. (at j).factor) (λ j. (exchanged_at at i call j).factor) count (λ j l. (left j l (eqb j i) refl).1);
        whole = λ j l. (left j l (eqb j i) refl).2;
      }

  pub turns_exchanged : {t : Tables} {calls : List TurnCall} {seen : List TurnSeen} → TurnChain count t runs' kept calls seen → seen ≡ shared_trace count t (exchanged_at at i call) calls
  turns_exchanged chain = turns_follow chain (exchanged_at at i call) exchange_follow

-- from accepted opens: turns, an exchange of one of the runs, and further turns
pub then_exchanged : {count : ℕ} {t : Tables} {runs : List Run} {kept : List Float} {calls : List TurnCall} {seen : List TurnSeen} (chain : TurnChain count t runs kept calls seen)
    (o : ℕ → Settings) → OpenedAll count o runs kept → (i : ℕ) (call : ExchangeCall) (number : ℕ) (runs' : List Run) → OneExchanged count (runs_left chain) i call number runs'
    → (later : List TurnCall) (seen' : List TurnSeen) → TurnChain count t runs' (factors_left chain) later seen'
    → seen' ≡ shared_trace count t (exchanged_at (shared_end count t (λ j. plain_open (o j)) calls) i call) later
then_exchanged {count} {t} {runs} {kept} {calls} chain o opened i call number runs' one later seen' more =
    turns_exchanged (turns_leave chain (λ j. plain_open (o j)) (opened_follow count o runs kept opened)) one more
