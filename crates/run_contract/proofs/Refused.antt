-- "A refusal changes no lent buffer and no run record" (demand 1), each by itself, from what the calls promise: where a number applies, the answer
-- is that number alone, and record and slices at exit are those at entry. Assumes nothing.
use Prim.Native.Nat.{ℕ}
use mathlib.Core.Path.{◌≡◌, sym, ap, ◌∙◌}
use mathlib.Core.List.{List}
use lib.Ieee.{Float}
use lib.ListN.{length}
use Rattle.std.specs.Prelude.{Result, Ok, Err}
use Rattle.run_record.specs.declared.Run.{Run}
use Rattle.tables.specs.CostTable.{CostTable}
use Rattle.run_record.specs.Numbers.{sweep_number, finish_number, exchange_number}
use Rattle.run_contract.specs.declared.FinishResult.{FinishResult}
use Rattle.run_contract.specs.Calls.{Settings, open_number_of, Opens, Sweeps, answer_number, finish_lengths, Finishes, Exchanges}

-- an answer whose number isn't 0 is a refusal by it
refused_by : {A : Type 0} (answer : Result A ℕ) (k : ℕ) → answer_number answer ≡ k → (k ≡ 0 → ⊥) → answer ≡ Err k
refused_by (Ok value) k e some = absurd (some (sym e))
refused_by (Err number) k e some = ap Err e

module _ {o : Settings} {factor factor' : List Float} {answer : Result Run ℕ} (says : Opens o factor answer factor') (some : open_number_of o (length factor) ≡ 0 → ⊥) where
  pub open_answer : answer ≡ Err (open_number_of o (length factor))
  open_answer = refused_by answer _ says.numbered some

  pub open_factor : factor' ≡ factor
  open_factor = says.refused (λ z. some (sym says.numbered ∙ z))

module _ {run run' : Run} {t : CostTable} {k number : ℕ} {factor factor' : List Float} (says : Sweeps run t k factor number run' factor')
    (some : sweep_number run t (length factor) ≡ 0 → ⊥) where
  pub sweep_answer : number ≡ sweep_number run t (length factor)
  sweep_answer = says.numbered

  pub sweep_record : run' ≡ run
  sweep_record = (says.refused (λ z. some (sym says.numbered ∙ z))).0

  pub sweep_factor : factor' ≡ factor
  sweep_factor = (says.refused (λ z. some (sym says.numbered ∙ z))).1

module _ {run : Run} {t : CostTable} {width draw_count : ℕ} {draws factor : List Float} {b : List ℕ} {dual : List Float} {workspace : List ℕ}
    {answer : Result FinishResult ℕ} {b' : List ℕ} {dual' : List Float} {workspace' : List ℕ}
    (says : Finishes run t width draw_count draws factor b dual workspace answer b' dual' workspace')
    (some : finish_number run t width draw_count (finish_lengths draws factor b dual workspace) ≡ 0 → ⊥) where
  pub finish_answer : answer ≡ Err (finish_number run t width draw_count (finish_lengths draws factor b dual workspace))
  finish_answer = refused_by answer _ says.numbered some

  none : answer_number answer ≡ 0 → ⊥
  none z = some (sym says.numbered ∙ z)

  pub finish_b : b' ≡ b
  finish_b = (says.refused none).0

  pub finish_dual : dual' ≡ dual
  finish_dual = (says.refused none).1

  pub finish_workspace : workspace' ≡ workspace
  finish_workspace = (says.refused none).2

module _ {run run' : Run} {rule : ℕ} {number : Float} {answer : ℕ} (says : Exchanges run rule number answer run') (some : exchange_number run rule number ≡ 0 → ⊥) where
  pub exchange_answer : answer ≡ exchange_number run rule number
  exchange_answer = says.numbered

  pub exchange_record : run' ≡ run
  exchange_record = says.refused (λ z. some (sym says.numbered ∙ z))
