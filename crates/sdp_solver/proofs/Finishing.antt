-- An accepted finish's answer, put together from the figures that `finalize` gave. Assumes nothing.
use Prim.Native.Nat.{ℕ, suc, ◌*◌}
use mathlib.Core.List.{List, ◌++◌}
use mathlib.Core.Path.{◌≡◌, refl, sym, ap, ◌∙◌, subst}
use native.Mathlib.Numerals.{add-one}
use lib.IntN.{ℤ}
use lib.Ieee.{Float}
use lib.ListN.{length, take, drop}
use lib.Seq.{length-take-le, drop_at}
use Rattle.std.specs.Prelude.{Result, Ok}
use Rattle.std.specs.Result.{result_unwrap_or}
use Rattle.ieee.specs.Floats.{◌+ᶠ◌}
use Rattle.limits.specs.Limits.{search_workspace}
use Rattle.run_record.specs.declared.Run.{Run}
use Rattle.tables.specs.CostTable.{CostTable, quadratic, linear}
use Rattle.run_record.specs.Numbers.{finish_number}
use Rattle.float_bound.specs.Below.{AtMostEighths}
use Rattle.finalize.specs.Finalize.{cost_of}
use Rattle.finalize.specs.Clauses.{Finalizes}
use Rattle.finalize.specs.Demand3.{Demand3}
use Rattle.finalize.proofs.Demand3.{demand3}
use Rattle.run_contract.specs.declared.FinishResult.{FinishResult}
use Rattle.run_contract.specs.Calls.{used, finish_lengths, finish_result, Finishes}
use Rattle.run_contract.proofs.Accepting.{Finishable, finish_accepted}
use Rattle.run_contract.proofs.Bounded.{bounded}

module _ (run : Run) (t : CostTable) (width draw_count : ℕ) (draws factor : List Float) (b : List ℕ) (dual : List Float) (workspace : List ℕ) {b' : List ℕ} {dual' : List Float}
    {diagonal bound : Float} {floor rounded cost : ℤ} {rounds : ℕ}
    (ok : finish_number run t width draw_count (finish_lengths draws factor b dual workspace) ≡ 0)
    (f : Finalizes t.n (quadratic t) (linear t) run.rank width draw_count draws (take (suc t.n * run.rank) factor) b b' dual dual' diagonal bound floor rounded cost rounds) where
  abbrev pub made_result : FinishResult
  made_result =
      record {
        status = run.status;
        rank = run.rank;
        n = t.n;
        sweeps = run.sweeps;
        relaxed_objective = run.last_objective +ᶠ diagonal;
        float_bound = bound;
        floor = floor;
        rounded_cost = rounded;
        cost = cost;
        rounds = rounds;
        standing = run.standing;
      }

  accepted : Finishable run t width draw_count (finish_lengths draws factor b dual workspace)
  accepted = finish_accepted run t width draw_count (finish_lengths draws factor b dual workspace) ok

  -- the figures of the record's part of the factor
  figures : Finalizes t.n (quadratic t) (linear t) run.rank width draw_count draws (take (used run) factor) b b' dual dual' diagonal bound floor rounded cost rounds
  figures = rw (accepted.size_is, add-one t.n) f

  result_is : made_result ≡ finish_result run t width draw_count draws (take (used run) factor)
  unfolding finish_result
  result_is = let g = figures in rw (g.diagonal_is, g.bound_is, g.floor_is, g.rounded_is, g.cost_is, g.rounds_are)

  -- of the workspace the front alone was lent on
  pub finishes : (front : List ℕ) → length front ≡ length (take search_workspace workspace)
      → Finishes run t width draw_count draws factor b dual workspace (Ok made_result) b' dual' (front ++ drop search_workspace workspace)
  finishes front e =
      record {
        numbered = sym ok;
        refused = λ n. absurd (n refl);
        accepted = λ z. (ap Ok result_is, figures.choice_is, figures.multipliers_are);
        kept = drop_at front (drop search_workspace workspace) search_workspace (e ∙ length-take-le search_workspace workspace accepted.fits.space_room);
        demand_3 = λ x e w.
            subst (λ (x : FinishResult). Demand3 t.n (quadratic t) (linear t) run.rank (take (used run) factor) draws draw_count width b' x.floor x.rounded_cost x.cost x.rounds)
            (ap (λ (r : Result FinishResult ℕ). result_unwrap_or r made_result) e) (demand3 accepted.hall run.rank _ _ _ _ w figures);
        bound_under = λ x e b''.
            subst (λ (x : FinishResult). AtMostEighths x.float_bound (cost_of t.n (quadratic t) (linear t) b'')) (ap (λ (r : Result FinishResult ℕ). result_unwrap_or r made_result) e) (rw figures.bound_is (bounded accepted.hall b''));
      }
