-- What the figures mean for every table within the ranges, and the call's contract put together. Assumes nothing.
--     ranges_hold                      between, reached, under, for any choice and any (H, c) within the ranges
--     ranged_refused, ranged_finishes  the two ways to the contract
use mathlib.Core.Path.{◌≡◌, refl, sym, ap, subst}
use mathlib.Core.Bool.{false}
use mathlib.Core.List.{List}
use Prim.Native.Nat.{ℕ, ◌≤◌}
use native.Mathlib.Omega.{arith}
use lib.IntN.{ℤ}
use lib.Signed.{◌≤ℤ◌}
use lib.Ieee.{Float}
use lib.ListN.{length}
use borrow.Author.Tests.{le-ltb}
use Rattle.std.specs.Prelude.{Result, Ok, Err}
use Rattle.std.specs.Result.{result_unwrap_or}
use Rattle.laws.proofs.Any.{any_head, any_rest}
use Rattle.std.proofs.lemmas.Int.{ints}
use Rattle.limits.specs.Limits.{most_wagons, most_entries}
use Rattle.tables.specs.Table.{value_at, Lent}
use Rattle.tables.specs.Cost.{cost_eighths, choice_at}
use Rattle.tables.proofs.Checks.{table_lent, long_enough}
use Rattle.sign_table.proofs.Theorems.{floor_le_choice}
use Rattle.run_record.specs.declared.Run.{Run}
use Rattle.run_record.specs.Numbers.{FinishLengths}
use Rattle.tables.specs.CostTable.{quadratic, linear}
use Rattle.finalize.specs.Finalize.{floor_eighths}
use Rattle.run_contract.specs.Calls.{answer_number, finish_lengths, Finishes}
use Rattle.run_contract.proofs.Accepting.{Finishable, finish_accepted}
use Rattle.sdp_solver.specs.Usable.{Usable}
use Rattle.ranged_finish.specs.Ranged.{RangedTable, low_of, high_of, Within}
use Rattle.ranged_finish.specs.Numbers.{ranged_number, ranged_short, ranged_finish_number}
use Rattle.ranged_finish.specs.Call.{Figures, Ranges, RangedFinishes}
use Rattle.ranged_finish.specs.declared.RangedResult.{RangedResult}
use Rattle.ranged_finish.proofs.Mono.{cost_mono}
use Rattle.ranged_finish.proofs.Halls.{low_hall, low_number, high_number}
use Rattle.ranged_finish.proofs.Ranging.{low_in, high_in}
use Rattle.ranged_finish.proofs.Deciding.{ranged_lent, ranged_ok, finish_ok}

-- ---- the figures of any choice

module _ (t : RangedTable) where
  -- the low table is the cheapest within the ranges, the high one the dearest
  low_least : (H : ℕ → ℕ → ℤ) (c : ℕ → ℤ) → Within t H c → (b : List ℕ) → cost_eighths t.n (value_at (quadratic (low_of t))) (linear (low_of t)) (choice_at b) ≤ℤ cost_eighths t.n H c (choice_at b)
  low_least H c w b = cost_mono t.n (value_at (quadratic (low_of t))) H (linear (low_of t)) c b w.from_low w.from_low_c

  high_most : (H : ℕ → ℕ → ℤ) (c : ℕ → ℤ) → Within t H c → (b : List ℕ) → cost_eighths t.n H c (choice_at b) ≤ℤ cost_eighths t.n (value_at (quadratic (high_of t))) (linear (high_of t)) (choice_at b)
  high_most H c w b = cost_mono t.n H (value_at (quadratic (high_of t))) c (linear (high_of t)) b w.to_high w.to_high_c

  pub ranges_hold : (b : List ℕ) {low high floor : ℤ} → ranged_number t ≡ 0 → Figures t b low high floor → Ranges t b low high floor
  unfolding floor_eighths
  ranges_hold b ok f =
      record {
        between = λ H c w. (rw f.low_is (low_least H c w b), rw f.high_is (high_most H c w b));
        low_reached = record { values = t.low; c = t.low_c; accepted = low_number t ok; within = low_in t ok; costs = sym f.low_is };
        high_reached = record { values = t.high; c = t.high_c; accepted = high_number t ok; within = high_in t ok; costs = sym f.high_is };
        under = λ H c w b''. rw f.floor_is (omega (arith, ints, floor_le_choice (low_hall t ok) b'', low_least H c w b''));
      }

-- ---- the call's contract

module _ (run : Run) (t : RangedTable) (width draw_count : ℕ) (draws factor : List Float) (b : List ℕ) (dual : List Float) (workspace : List ℕ) where
  pub ranged_refused : (k : ℕ) → k ≡ ranged_finish_number run t width draw_count (finish_lengths draws factor b dual workspace) → (k ≡ 0 → ⊥)
      → RangedFinishes run t width draw_count draws factor b dual workspace (Err k) b dual workspace
  ranged_refused k e n =
      record {
        numbered = e;
        refused = λ z. (refl, refl, refl);
        given = λ z. absurd (n z);
        finished = λ x is. absurd (n (ap answer_number is));
        figures = λ x is. absurd (n (ap answer_number is));
        ranges = λ x is. absurd (n (ap answer_number is));
      }

  pub ranged_finishes : (x : RangedResult) {b' : List ℕ} {dual' : List Float} {workspace' : List ℕ}
      → ranged_finish_number run t width draw_count (finish_lengths draws factor b dual workspace) ≡ 0
      → Finishes run (high_of t) width draw_count draws factor b dual workspace (Ok x.result) b' dual' workspace'
      → Figures t b' x.low x.high x.low_floor
      → RangedFinishes run t width draw_count draws factor b dual workspace (Ok x) b' dual' workspace'
  ranged_finishes x {b'} {dual'} {workspace'} ok f g =
      let r : Ranges t b' x.low x.high x.low_floor = ranges_hold t b' (ranged_ok run t width draw_count (finish_lengths draws factor b dual workspace) ok) g in
      record {
        numbered = sym ok;
        refused = λ n. absurd (n refl);
        given = λ z. (x, refl);
        finished = λ y is.
            subst (λ (z : RangedResult). Finishes run (high_of t) width draw_count draws factor b dual workspace (Ok z.result) b' dual' workspace') (ap (λ (r : Result RangedResult ℕ). result_unwrap_or r x) is) f;
        figures = λ y is. subst (λ (z : RangedResult). Figures t b' z.low z.high z.low_floor) (ap (λ (r : Result RangedResult ℕ). result_unwrap_or r x) is) g;
        ranges = λ y is. subst (λ (z : RangedResult). Ranges t b' z.low z.high z.low_floor) (ap (λ (r : Result RangedResult ℕ). result_unwrap_or r x) is) r;
      }

-- ---- where no slice of the ranged table is short

pub slices_lent : (t : RangedTable) → ranged_short t ≡ false
    → (t.count ≤ most_entries → Lent t.count t.rows t.cols t.low × (t.count ≤ length t.high)) × (t.n ≤ most_wagons → (t.n ≤ length t.low_c) × (t.n ≤ length t.high_c))
unfolding ranged_short
slices_lent t e =
    let later = any_rest _ _ e in (
      λ h. (table_lent (any_head _ _ e) h, long_enough (any_head _ _ later) (le-ltb most_entries t.count h)),
      λ h. (long_enough (any_head _ _ (any_rest _ _ later)) (le-ltb most_wagons t.n h), long_enough (any_head _ _ (any_rest _ _ (any_rest _ _ later))) (le-ltb most_wagons t.n h)),
    )

-- what an accepted call works on: the low table as a call may take it, the high one as a finish does
pub record RangedFinishable (run : Run) (t : RangedTable) (width draw_count : ℕ) (lent : FinishLengths) : Type 0 where
  pub low : Usable (low_of t)
  pub high : Finishable run (high_of t) width draw_count lent

pub ranged_finishable : (run : Run) (t : RangedTable) (width draw_count : ℕ) (lent : FinishLengths) → ranged_finish_number run t width draw_count lent ≡ 0 → RangedFinishable run t width draw_count lent
ranged_finishable run t width draw_count lent ok =
    let h = low_hall t (ranged_ok run t width draw_count lent ok) in
    let l = slices_lent t (ranged_lent run t width draw_count lent ok) in
    record {
      low = record { slices = (l.0 h.entries).0; costs = (l.1 h.wagons).0; hall = h };
      high = finish_accepted run (high_of t) width draw_count lent (finish_ok run t width draw_count lent ok);
    }
