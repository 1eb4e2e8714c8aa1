-- Every list of calls has a chain: what the theorem on lists assumes is never empty. Assumes nothing.
use Prim.Native.Nat.{ℕ, zero, suc, ◌≤◌}
use mathlib.Core.Path.{◌≡◌, refl, sym, ap, ◌∙◌, subst}
use mathlib.Core.Bool.{Bool, true, false}
use mathlib.Core.List.{List, [], ◌∷◌, ◌++◌}
use native.Mathlib.Omega.{arith}
use lib.ListN.{length, take, replicate, length-append, length-replicate}
use lib.Seq.{length-take-le, take_all, take-take, take_at, take-append-le}
use lib.Dec.{leb}
use lib.Ieee.{Float, nan}
use borrow.Author.Tests.{leb-true, leb-false}
use Rattle.std.specs.Prelude.{Result, Ok, Err}
use Rattle.std.specs.Result.{result_unwrap_or}
use Rattle.laws.specs.Lists.{over}
use Rattle.run_record.specs.declared.Run.{Run}
use Rattle.tables.specs.CostTable.{CostTable, quadratic, linear}
use Rattle.run_record.specs.Numbers.{sweep_number, finish_number, exchange_number}
use Rattle.step_rules.specs.Rule.{rule_of}
use Rattle.run_sweep.specs.Work.{call_work}
use Rattle.run_sweep.specs.Sweep.{sweeps_up_to}
use Rattle.float_bound.specs.Below.{AtMostEighths}
use Rattle.finalize.specs.Finalize.{cost_of}
use Rattle.finalize.specs.Demand3.{Demand3}
use Rattle.finalize.proofs.Demand3.{demand3}
use Rattle.run_contract.specs.declared.FinishResult.{FinishResult}
use Rattle.run_contract.specs.Calls.{Sweeps, used, answer_number, Finishes, finish_lengths, finish_result, finish_choice, finish_multipliers, exchanged, Exchanges}
use Rattle.run_contract.specs.PlainRun.{FinishCall, Call, sweep, finish, exchange, Seen}
use Rattle.run_contract.specs.Chain.{Lends, kept_after, Sized, Chain, ends, sweeps, finishes, exchanges}
use Rattle.run_contract.proofs.Accepting.{HallOf, finish_accepted}
use Rattle.run_contract.proofs.Bounded.{bounded}
use Rattle.run_contract.proofs.Finalized.{finalized}

-- a slice of any length can be lent
abbrev pub lent_of : List Float → ℕ → List Float
lent_of kept lent = take lent (kept ++ replicate lent nan)

lent_sized : (kept : List Float) (lent : ℕ) → length (lent_of kept lent) ≡ lent
lent_sized kept lent = length-take-le lent (kept ++ replicate lent nan) (rw (length-append, length-replicate) (omega arith))

lent_same : (short : Bool) (kept : List Float) (lent : ℕ) → leb lent (length kept) ≡ short → take (length kept) (lent_of kept lent) ≡ take lent kept
lent_same true kept lent e =
    let fewer : length (lent_of kept lent) ≤ length kept = rw (lent_sized kept lent) (leb-true lent (length kept) e) in
    take_all (length kept) (lent_of kept lent) fewer ∙ take-append-le lent kept (replicate lent nan) (leb-true lent (length kept) e)
lent_same false kept lent e =
    let more : length kept ≤ lent = omega (arith, leb-false lent (length kept) e) in
    take-take (length kept) lent (kept ++ replicate lent nan) more ∙ take_at kept (replicate lent nan) (length kept) refl ∙ sym (take_all lent kept more)

pub lends : (kept : List Float) (lent : ℕ) → Lends kept lent (lent_of kept lent)
lends kept lent = record { sized = lent_sized kept lent; same = lent_same (leb lent (length kept)) kept lent refl }

-- a sweep has an outcome
sweep_has : (run : Run) (t : CostTable) (k : ℕ) (factor : List Float) (m : ℕ) → sweep_number run t (length factor) ≡ m
    → (run' : Run) × (factor' : List Float) × Sweeps run t k factor m run' factor'
sweep_has run t k factor zero e =
    let s = sweeps_up_to k (call_work t) run (take (used run) factor) in
    (s.run, over s.factor factor, record { numbered = sym e; refused = λ n. absurd (n refl); accepted = λ z. (refl, refl) })
sweep_has run t k factor (suc m) e =
    (run, factor, record { numbered = sym e; refused = λ n. (refl, refl); accepted = λ z. absurd (omega arith) })

-- an exchange has an outcome
exchange_has : (run : Run) (rule : ℕ) (number : Float) (m : ℕ) → exchange_number run rule number ≡ m → (run' : Run) × Exchanges run rule number m run'
exchange_has run rule number zero e = (exchanged run (rule_of rule number), record { numbered = sym e; refused = λ n. absurd (n refl); accepted = λ z. refl })
exchange_has run rule number (suc m) e = (run, record { numbered = sym e; refused = λ n. refl; accepted = λ z. absurd (omega arith) })

-- a finish has an outcome, which keeps demand 3 and the float bound below every cost
module _ (run : Run) (t : CostTable) (width draw_count : ℕ) (draws factor : List Float) (b : List ℕ) (dual : List Float) (workspace : List ℕ) where
  abbrev v : List Float
  v = take (used run) factor

  abbrev result : FinishResult
  result = finish_result run t width draw_count draws v

  abbrev choice : List ℕ
  choice = over (finish_choice run t width draw_count draws v) b

  abbrev Kept : FinishResult → Type 0
  Kept x = Demand3 t.n (quadratic t) (linear t) run.rank v draws draw_count width choice x.floor x.rounded_cost x.cost x.rounds

  keeps_demand : HallOf t → 1 ≤ width → Kept result
  unfolding finish_result
  keeps_demand hall w =
      demand3 hall run.rank v draws draw_count width w (finalized t.n (quadratic t) (linear t) run.rank v draws draw_count width b dual)

  keeps_under : HallOf t → (b'' : List ℕ) → AtMostEighths result.float_bound (cost_of t.n (quadratic t) (linear t) b'')
  unfolding finish_result
  keeps_under hall b'' = bounded hall b''

  finish_has : (m : ℕ) → finish_number run t width draw_count (finish_lengths draws factor b dual workspace) ≡ m
      → (answer : Result FinishResult ℕ) × (b' : List ℕ) × (dual' : List Float) × Finishes run t width draw_count draws factor b dual workspace answer b' dual' workspace
  finish_has zero e =
      let good = finish_accepted run t width draw_count (finish_lengths draws factor b dual workspace) e in (
        Ok result,
        choice,
        over (finish_multipliers run t v) dual,
        record {
          numbered = sym e;
          refused = λ n. absurd (n refl);
          accepted = λ z. (refl, refl, refl);
          kept = refl;
          demand_3 = λ x is w. subst Kept (ap (λ (r : Result FinishResult ℕ). result_unwrap_or r result) is) (keeps_demand good.hall w);
          bound_under = λ x is b''. subst (λ (x : FinishResult). AtMostEighths x.float_bound (cost_of t.n (quadratic t) (linear t) b'')) (ap (λ (r : Result FinishResult ℕ). result_unwrap_or r result) is) (keeps_under good.hall b'');
        },
      )
  finish_has (suc m) e = (
    Err (suc m),
    b,
    dual,
    record {
      numbered = sym e;
      refused = λ n. (refl, refl, refl);
      accepted = λ z. absurd (omega arith);
      kept = refl;
      demand_3 = λ x is w. let no : ◌≡◌ {A = ℕ} (suc m) 0 = ap answer_number is in absurd (omega arith);
      bound_under = λ x is b''. let no : ◌≡◌ {A = ℕ} (suc m) 0 = ap answer_number is in absurd (omega arith);
    },
  )

sized : (call : FinishCall) → Sized call (replicate call.b_length 0) (replicate call.dual_length nan) (replicate call.workspace_length 0)
sized call =
    record {
      b_sized = length-replicate call.b_length 0;
      dual_sized = length-replicate call.dual_length nan;
      workspace_sized = length-replicate call.workspace_length 0;
    }

pub chain_of : (calls : List Call) (run : Run) (kept : List Float) → (seen : List Seen) × Chain run kept calls seen
chain_of [] run kept = (_, ends)
chain_of (sweep call ∷ calls) run kept =
    let factor = lent_of kept call.factor_length in
    let one = sweep_has run call.table call.k factor (sweep_number run call.table (length factor)) refl in
    let rest = chain_of calls one.0 (kept_after kept call.factor_length one.1) in
    (_, sweeps factor _ one.0 one.1 (lends kept call.factor_length) one.2 rest.1)
chain_of (finish call ∷ calls) run kept =
    let factor = lent_of kept call.factor_length in
    let b : List ℕ = replicate call.b_length 0 in
    let dual : List Float = replicate call.dual_length nan in
    let workspace : List ℕ = replicate call.workspace_length 0 in
    let one = finish_has run call.table call.width call.draw_count call.draws factor b dual workspace
    (finish_number run call.table call.width call.draw_count (finish_lengths call.draws factor b dual workspace)) refl in
    let rest = chain_of calls run kept in
    (_, finishes factor b dual workspace one.0 one.1 one.2 workspace (lends kept call.factor_length) (sized call) one.3 rest.1)
chain_of (exchange call ∷ calls) run kept =
    let one = exchange_has run call.rule call.number (exchange_number run call.rule call.number) refl in
    let rest = chain_of calls one.0 kept in
    (_, exchanges _ one.0 one.1 rest.1)
