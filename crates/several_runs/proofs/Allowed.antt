-- Whatever a caller may do is meant: `OpenedAll` and `TurnChain` ask no more than 02 does. Assumes nothing.
--     opened_any      accepted opens, whatever was lent to them, their factors moved together, are runs that were opened
--     opened_some     settings whose opens are accepted have such runs
--     turns_any       a turn on any slice that has the kept factors as far as both go, with any outcome that its promise allows, goes before any chain
use Prim.Native.Nat.{ℕ, ◌<◌, ◌≤◌}
use mathlib.Core.Path.{◌≡◌, refl, sym, ap}
use mathlib.Core.List.{List, ◌∷◌}
use native.Mathlib.Omega.{arith}
use lib.ListN.{length, take}
use lib.Ieee.{Float}
use Rattle.std.specs.Prelude.{Ok}
use Rattle.ieee.specs.Floats.{at}
use Rattle.laws.specs.Lists.{over, tabulate}
use Rattle.laws.proofs.Made.{length_tabulate, get_d_tabulate}
use Rattle.run_record.specs.declared.Run.{Run}
use Rattle.run_contract.specs.Calls.{Settings, Opens, open_number_of, open_run, start_factor, used}
use Rattle.run_contract.specs.Chain.{kept_after}
use Rattle.run_contract.proofs.Allowed.{lends_agree}
use Rattle.several_runs.specs.Turn.{Tables, blank, run_at, joined, Turns}
use Rattle.several_runs.specs.Shared.{TurnCall, TurnSeen, seen_of, TurnChain, turns, OpenedAll}

pub opened_any : (count : ℕ) (o : ℕ → Settings) (runs : List Run) (lent left : ℕ → List Float) → count ≤ length runs
    → ((i : ℕ) → i < count → Opens (o i) (lent i) (Ok (run_at runs i)) (left i))
    → OpenedAll count o runs (joined (λ i. take (used (run_at runs i)) (left i)) count)
opened_any count o runs lent left room opens = record { room = room; lent = lent; left = left; opens = opens; kept_are = refl }

-- an open that no number refuses, lent so many numbers
open_one : (o : Settings) (factor : List Float) (run : Run) → open_number_of o (length factor) ≡ 0 → run ≡ open_run o → Opens o factor (Ok run) (over (start_factor o) factor)
open_one o factor run ok e = record { numbered = sym ok; refused = λ n. absurd (n refl); accepted = λ _. (ap Ok e, refl) }

pub opened_some : (count : ℕ) (o : ℕ → Settings) (lent : ℕ → List Float) → ((i : ℕ) → i < count → open_number_of (o i) (length (lent i)) ≡ 0)
    → (runs : List Run) × (kept : List Float) × OpenedAll count o runs kept
opened_some count o lent ok =
    let runs = tabulate (λ i. open_run (o i)) count in (
      runs,
      _,
      opened_any count o runs lent (λ i. over (start_factor (o i)) (lent i)) (rw (length_tabulate (λ i. open_run (o i)) count) (omega arith))
          (λ i l. open_one (o i) (lent i) (run_at runs i) (ok i l) (get_d_tabulate (λ i. open_run (o i)) count i blank l)),
    )

pub turns_any : {count : ℕ} {t : Tables} (runs : List Run) (kept : List Float) {calls : List TurnCall} {seen : List TurnSeen}
    (call : TurnCall) (factors : List Float) (number : ℕ) (runs' : List Run) (factors' : List Float)
    → length factors ≡ call.factors_length → ((i : ℕ) → i < length factors → i < length kept → at factors i ≡ at kept i)
    → Turns call.sweeps count runs t factors number runs' factors'
    → TurnChain count t runs' (kept_after kept call.factors_length factors') calls seen
    → TurnChain count t runs kept (call ∷ calls) (seen_of count number (run_at runs') (kept_after kept call.factors_length factors') ∷ seen)
turns_any runs kept call factors number runs' factors' e h says chain = turns factors number runs' factors' (lends_agree kept _ factors e h) says chain
