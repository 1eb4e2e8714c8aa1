-- Whatever a caller may lend is meant: no field of `Lends` or `Sized` and no case of `Chain` asks more than 01 does. Assumes nothing.
--     lends_agree     any slice that has the kept factor as far as both go
--     lends_any       the kept factor, with anything behind it
--     lends_short     the front of the kept factor
--     sized_any       slices of the lengths that the call says, whatever they hold
--     sweeps_any      a sweep on such a slice, with any outcome that its promise allows, goes before any chain
--     finishes_any    so does a finish
--     exchanges_any   and an exchange
use Prim.Native.Nat.{ℕ, suc, ◌+◌, ◌≤◌, ◌<◌}
use mathlib.Core.Path.{◌≡◌, refl, sym, ap, ◌∙◌}
use mathlib.Core.List.{List, [], ◌∷◌, ◌++◌}
use mathlib.Core.Option.{none}
use native.Mathlib.Omega.{arith}
use lib.Ieee.{Float}
use lib.ListN.{length, take, length-append}
use lib.Seq.{length-take-le, take_all, take_at, take-nil}
use Rattle.std.specs.Prelude.{Result}
use Rattle.ieee.specs.Floats.{at}
use Rattle.run_record.specs.declared.Run.{Run}
use Rattle.run_contract.specs.declared.FinishResult.{FinishResult}
use Rattle.run_contract.specs.Calls.{Sweeps, Finishes, answer_number, Exchanges}
use Rattle.run_contract.specs.PlainRun.{SweepCall, FinishCall, ExchangeCall, Call, sweep, finish, exchange, Seen}
use Rattle.run_contract.specs.Chain.{Lends, kept_after, seen_of, given_of, Sized, Chain, sweeps, finishes, exchanges}

-- two lists have the same numbers as far as both go
abbrev Agree : List Float → List Float → Type 0
Agree factor kept = (i : ℕ) → i < length factor → i < length kept → at factor i ≡ at kept i

fronts : (kept factor : List Float) → Agree factor kept → take (length kept) factor ≡ take (length factor) kept
fronts [] factor h = sym (take-nil (length factor))
fronts (x ∷ kept) [] h = refl
fronts (x ∷ kept) (y ∷ factor) h =
    ap (λ (z : Float). z ∷ take (length kept) factor) (h 0 (omega arith) (omega arith))
    ∙ ap (λ (zs : List Float). x ∷ zs) (fronts kept factor (λ i l m. h (suc i) (omega arith) (omega arith)))

pub lends_agree : (kept : List Float) (lent : ℕ) (factor : List Float) → length factor ≡ lent
    → ((i : ℕ) → i < length factor → i < length kept → at factor i ≡ at kept i) → Lends kept lent factor
lends_agree kept lent factor e h = record { sized = e; same = fronts kept factor h ∙ ap (λ (k : ℕ). take k kept) e }

pub lends_any : (kept tail : List Float) → Lends kept (length kept + length tail) (kept ++ tail)
lends_any kept tail =
    record {
      sized = length-append kept tail;
      same = take_at kept tail (length kept) refl ∙ sym (take_all (length kept + length tail) kept (omega arith));
    }

pub lends_short : (kept : List Float) (lent : ℕ) → lent ≤ length kept → Lends kept lent (take lent kept)
lends_short kept lent l =
    let is = length-take-le lent kept l in
    record { sized = is; same = take_all (length kept) (take lent kept) (rw is l) }

pub sized_any : (call : FinishCall) (b : List ℕ) (dual : List Float) (workspace : List ℕ)
    → length b ≡ call.b_length → length dual ≡ call.dual_length → length workspace ≡ call.workspace_length → Sized call b dual workspace
sized_any call b dual workspace p q r = record { b_sized = p; dual_sized = q; workspace_sized = r }

module _ (run : Run) (kept : List Float) {calls : List Call} {seen : List Seen} where
  pub sweeps_any : (call : SweepCall) (factor : List Float) (number : ℕ) (run' : Run) (factor' : List Float)
      → length factor ≡ call.factor_length → ((i : ℕ) → i < length factor → i < length kept → at factor i ≡ at kept i)
      → Sweeps run call.table call.k factor number run' factor'
      → Chain run' (kept_after kept call.factor_length factor') calls seen
      → Chain run kept (sweep call ∷ calls) (seen_of number none run' (kept_after kept call.factor_length factor') ∷ seen)
  sweeps_any call factor number run' factor' e h says chain = sweeps factor number run' factor' (lends_agree kept _ factor e h) says chain

  pub finishes_any : (call : FinishCall) (factor : List Float) (b : List ℕ) (dual : List Float) (workspace : List ℕ)
      (answer : Result FinishResult ℕ) (b' : List ℕ) (dual' : List Float) (workspace' : List ℕ)
      → length factor ≡ call.factor_length → ((i : ℕ) → i < length factor → i < length kept → at factor i ≡ at kept i)
      → length b ≡ call.b_length → length dual ≡ call.dual_length → length workspace ≡ call.workspace_length
      → Finishes run call.table call.width call.draw_count call.draws factor b dual workspace answer b' dual' workspace'
      → Chain run kept calls seen
      → Chain run kept (finish call ∷ calls) (seen_of (answer_number answer) (given_of answer call.table.n b' dual') run kept ∷ seen)
  finishes_any call factor b dual workspace answer b' dual' workspace' e h p q r says chain =
      finishes factor b dual workspace answer b' dual' workspace' (lends_agree kept _ factor e h) (sized_any call b dual workspace p q r) says chain

  pub exchanges_any : (call : ExchangeCall) (number : ℕ) (run' : Run) → Exchanges run call.rule call.number number run'
      → Chain run' kept calls seen → Chain run kept (exchange call ∷ calls) (seen_of number none run' kept ∷ seen)
  exchanges_any call number run' says chain = exchanges number run' says chain
