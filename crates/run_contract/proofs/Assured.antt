-- Demand 3 of every accepted finish of width 1 or more, from what the call promises alone, and its second sentence with no hypothesis but its
-- words: any choice that differs from b in one wagon i, and any that differs in all. Of any width, the float bound below every cost (`finish_under`).
-- Assumes nothing.
use Prim.Native.Nat.{ℕ, ◌≤◌, ◌<◌}
use mathlib.Core.Path.{◌≡◌, ◌∙◌}
use mathlib.Core.List.{List}
use lib.Ieee.{Float}
use lib.ListN.{take}
use lib.Signed.{◌≤ℤ◌}
use Rattle.std.specs.Prelude.{Result, Ok}
use Rattle.tables.specs.Cost.{choice_at}
use Rattle.run_record.specs.declared.Run.{Run}
use Rattle.tables.specs.CostTable.{CostTable, quadratic, linear}
use Rattle.run_record.specs.Numbers.{finish_number}
use Rattle.float_bound.specs.Below.{AtMostEighths}
use Rattle.finalize.specs.Finalize.{cost_of}
use Rattle.finalize.specs.Demand3.{Demand3}
use Rattle.finalize.proofs.Demand3.{differ_one, differ_all}
use Rattle.run_contract.specs.declared.FinishResult.{FinishResult}
use Rattle.run_contract.specs.Calls.{used, finish_lengths, finish_result, Finishes}

module _ {run : Run} {t : CostTable} {width draw_count : ℕ} {draws factor : List Float} {b : List ℕ} {dual : List Float} {workspace : List ℕ}
    {answer : Result FinishResult ℕ} {b' : List ℕ} {dual' : List Float} {workspace' : List ℕ}
    (says : Finishes run t width draw_count draws factor b dual workspace answer b' dual' workspace')
    (ok : finish_number run t width draw_count (finish_lengths draws factor b dual workspace) ≡ 0) where
  abbrev result : FinishResult
  result = finish_result run t width draw_count draws (take (used run) factor)

  pub finish_gives : answer ≡ Ok result
  finish_gives = (says.accepted (says.numbered ∙ ok)).0

  pub finish_under : (b'' : List ℕ) → AtMostEighths result.float_bound (cost_of t.n (quadratic t) (linear t) b'')
  finish_under b'' = says.bound_under result finish_gives b''

  module _ (some : 1 ≤ width) where
    pub finish_demand : Demand3 t.n (quadratic t) (linear t) run.rank (take (used run) factor) draws draw_count width b'
        result.floor result.rounded_cost result.cost result.rounds
    finish_demand = says.demand_3 result finish_gives some

    pub finish_one_wagon : (b'' : List ℕ) (i : ℕ) → i < t.n → (choice_at b' i ≡ choice_at b'' i → ⊥)
        → ((j : ℕ) → j < t.n → (j ≡ i → ⊥) → choice_at b' j ≡ choice_at b'' j) → result.cost ≤ℤ cost_of t.n (quadratic t) (linear t) b''
    finish_one_wagon b'' i l d o = finish_demand.one_wagon b'' (differ_one t.n b' b'' i l d o)

    pub finish_all_wagons : (b'' : List ℕ) → ((j : ℕ) → j < t.n → choice_at b' j ≡ choice_at b'' j → ⊥)
        → result.cost ≤ℤ cost_of t.n (quadratic t) (linear t) b''
    finish_all_wagons b'' d = finish_demand.all_wagons b'' (differ_all t.n b' b'' d)
