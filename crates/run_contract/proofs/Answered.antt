-- The number that a call answers, from what the call itself promises: the condition of that number, in 01's words, holds, and of none before it;
-- and so of the plain run's. Assumes nothing.
use Prim.Native.Nat.{ℕ}
use mathlib.Core.Path.{sym, subst}
use mathlib.Core.List.{List}
use lib.Ieee.{Float}
use lib.ListN.{length}
use Rattle.std.specs.Prelude.{Result}
use Rattle.run_record.specs.declared.Run.{Run}
use Rattle.tables.specs.CostTable.{CostTable}
use Rattle.run_record.specs.Conditions.{Clause, Answered, open_clauses, sweep_clauses, finish_clauses, exchange_clauses}
use Rattle.run_record.proofs.Answered as Numbers
use Rattle.run_contract.specs.declared.FinishResult.{FinishResult}
use Rattle.run_contract.specs.Calls.{Settings, Opens, Sweeps, Finishes, finish_lengths, answer_number, Exchanges}
use Rattle.run_contract.specs.PlainRun.{Plain, Call, sweep, finish, exchange, record_of, lengths_of, plain_number}

-- an open's numbers with their conditions, lent so many numbers of factor
abbrev pub open_clauses_of : Settings → ℕ → List Clause
open_clauses_of o factor = open_clauses o.table o.rank o.rule o.number o.most o.start (length o.numbers) factor

pub open_answered : {o : Settings} {factor : List Float} {answer : Result Run ℕ} {factor' : List Float} → Opens o factor answer factor'
    → Answered (answer_number answer) (open_clauses_of o (length factor))
open_answered {o} {factor} opens =
    subst (λ (k : ℕ). Answered k (open_clauses_of o (length factor))) (sym opens.numbered)
    (Numbers.open_answered o.table o.rank o.rule o.number o.most o.start (length o.numbers) (length factor))

pub sweep_answered : {run : Run} {t : CostTable} {k : ℕ} {factor : List Float} {number : ℕ} {run' : Run} {factor' : List Float}
    → Sweeps run t k factor number run' factor' → Answered number (sweep_clauses run t (length factor))
sweep_answered {run} {t} {k} {factor} sweeps =
    subst (λ (j : ℕ). Answered j (sweep_clauses run t (length factor))) (sym sweeps.numbered) (Numbers.sweep_answered run t (length factor))

pub finish_answered : {run : Run} {t : CostTable} {width draw_count : ℕ} {draws factor : List Float} {b : List ℕ} {dual : List Float} {workspace : List ℕ}
    {answer : Result FinishResult ℕ} {b' : List ℕ} {dual' : List Float} {workspace' : List ℕ} → Finishes run t width draw_count draws factor b dual workspace answer b' dual' workspace'
    → Answered (answer_number answer) (finish_clauses run t width draw_count (finish_lengths draws factor b dual workspace))
finish_answered {run} {t} {width} {draw_count} {draws} {factor} {b} {dual} {workspace} finishes =
    let lent = finish_lengths draws factor b dual workspace in
    subst (λ (k : ℕ). Answered k (finish_clauses run t width draw_count lent)) (sym finishes.numbered) (Numbers.finish_answered run t width draw_count lent)

pub exchange_answered : {run : Run} {rule : ℕ} {number : Float} {answer : ℕ} {run' : Run} → Exchanges run rule number answer run' → Answered answer (exchange_clauses run rule number)
exchange_answered {run} {rule} {number} exchanges =
    subst (λ (k : ℕ). Answered k (exchange_clauses run rule number)) (sym exchanges.numbered) (Numbers.exchange_answered run rule number)

-- the plain run's, "judged on this state and its arguments"
abbrev pub clauses_of : Plain → Call → List Clause
clauses_of p (sweep s) = sweep_clauses (record_of p) s.table s.factor_length
clauses_of p (finish f) = finish_clauses (record_of p) f.table f.width f.draw_count (lengths_of f)
clauses_of p (exchange e) = exchange_clauses (record_of p) e.rule e.number

pub plain_answered : (p : Plain) (call : Call) → Answered (plain_number p call) (clauses_of p call)
unfolding plain_number
plain_answered p (sweep s) = Numbers.sweep_answered (record_of p) s.table s.factor_length
plain_answered p (finish f) = Numbers.finish_answered (record_of p) f.table f.width f.draw_count (lengths_of f)
plain_answered p (exchange e) = Numbers.exchange_answered (record_of p) e.rule e.number
