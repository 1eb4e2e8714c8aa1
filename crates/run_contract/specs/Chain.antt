-- What a caller sees who makes a list of calls on one run record and one factor, each call doing anything that its `ensures` allows: "The port's
-- calls get run record and factor as the last call left them; nobody else writes either meanwhile" (01). Definitions only.
use Rattle.std.specs.Prelude.{ℕ, suc, ◌≡◌, List, [], ◌∷◌, ◌++◌, length, take, drop, Float, Result, Ok, Err}
use Rattle.std.proofs.Math.Option.{Option, some, none}
use Rattle.run_record.specs.declared.Run.{Run}
use Rattle.run_contract.specs.declared.FinishResult.{FinishResult}
use Rattle.run_contract.specs.Calls.{Sweeps, Finishes, answer_number, Exchanges}
use Rattle.run_contract.specs.PlainRun.{SweepCall, FinishCall, ExchangeCall, Call, sweep, finish, exchange, Given, Seen}

-- a slice of so many numbers is lent that has the kept factor as far as both go; what lies behind the factor is any. Any such slice is meant
-- (`lends_agree`, proofs/Allowed)
pub record Lends (kept : List Float) (lent : ℕ) (factor : List Float) : Type 0 where
  pub sized : length factor ≡ lent
  pub same : take (length kept) factor ≡ take lent kept

-- the kept factor after a call that left the lent slice so: what lies behind a short slice stays
abbrev pub kept_after : List Float → ℕ → List Float → List Float
kept_after kept lent factor' = take (length kept) factor' ++ drop lent kept

-- what is seen of a run record and factor
abbrev pub seen_of : ℕ → Option Given → Run → List Float → Seen
seen_of number given run kept = record { number = number; run = run; factor = kept; given = given }

-- what an answer gives, with the n bytes of the choice and the n + 1 multipliers
abbrev pub given_of : Result FinishResult ℕ → ℕ → List ℕ → List Float → Option Given
given_of (Ok result) n b' dual' = some (record { result = result; b = take n b'; dual = take (suc n) dual' })
given_of (Err number) n b' dual' = none

-- the slices that a finish writes, of the lengths that the call says; what they hold is any (`sized_any`)
pub record Sized (call : FinishCall) (b : List ℕ) (dual : List Float) (workspace : List ℕ) : Type 0 where
  pub b_sized : length b ≡ call.b_length
  pub dual_sized : length dual ≡ call.dual_length
  pub workspace_sized : length workspace ≡ call.workspace_length

-- from a run record and its factor, a list of calls, and what is seen after each; a finish is given record and factor to read only, an exchange
-- the record alone. No case asks more than these (`sweeps_any`, `finishes_any`, `exchanges_any`)
pub data Chain : Run → List Float → List Call → List Seen → Type 0 where
  ends : {run : Run} {kept : List Float} → Chain run kept [] []
  sweeps : {run : Run} {kept : List Float} {call : SweepCall} {calls : List Call} {seen : List Seen}
      (factor : List Float) (number : ℕ) (run' : Run) (factor' : List Float)
      → Lends kept call.factor_length factor
      → Sweeps run call.table call.k factor number run' factor'
      → Chain run' (kept_after kept call.factor_length factor') calls seen
      → Chain run kept (sweep call ∷ calls) (seen_of number none run' (kept_after kept call.factor_length factor') ∷ seen)
  finishes : {run : Run} {kept : List Float} {call : FinishCall} {calls : List Call} {seen : List Seen}
      (factor : List Float) (b : List ℕ) (dual : List Float) (workspace : List ℕ) (answer : Result FinishResult ℕ) (b' : List ℕ) (dual' : List Float) (workspace' : List ℕ)
      → Lends kept call.factor_length factor
      → Sized call b dual workspace
      → Finishes run call.table call.width call.draw_count call.draws factor b dual workspace answer b' dual' workspace'
      → Chain run kept calls seen
      → Chain run kept (finish call ∷ calls) (seen_of (answer_number answer) (given_of answer call.table.n b' dual') run kept ∷ seen)
  exchanges : {run : Run} {kept : List Float} {call : ExchangeCall} {calls : List Call} {seen : List Seen}
      (number : ℕ) (run' : Run)
      → Exchanges run call.rule call.number number run'
      → Chain run' kept calls seen
      → Chain run kept (exchange call ∷ calls) (seen_of number none run' kept ∷ seen)
