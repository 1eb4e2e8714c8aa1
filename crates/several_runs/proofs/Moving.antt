-- An accepted turn, run by run: what the runs before i were left as stands at the front of the factors. Assumes nothing.
use Prim.Native.Nat.{ℕ, ◌+◌, ◌-◌, ◌≤◌, ◌<◌}
use mathlib.Core.Path.{◌≡◌, refl, sym, ap, ap₂, ◌∙◌}
use mathlib.Core.List.{List, ◌++◌, append_assoc}
use native.Mathlib.Numerals.{add-one}
use native.Mathlib.Omega.{arith}
use lib.Ieee.{Float}
use lib.ListN.{length, take, drop, length-drop, length-append}
use lib.Seq.{length-take-le, take_at, drop_at, drop-drop}
use Rattle.laws.specs.Lists.{over}
use Rattle.laws.specs.Sum.{total}
use Rattle.laws.proofs.Totals.{total_ext}
use Rattle.run_record.specs.declared.Run.{Run}
use Rattle.tables.specs.CostTable.{CostTable}
use Rattle.run_sweep.specs.Work.{Work, call_work}
use Rattle.run_sweep.specs.Sweep.{State, sweeps_up_to}
use Rattle.run_contract.specs.Calls.{used}
use Rattle.run_contract.proofs.Tails.{length_sweeps}
use Rattle.several_runs.specs.Turn.{Tables, table_at, factor_at, turn_number, only_open, open_below, share, share_of, turned_at, joined}
use Rattle.several_runs.proofs.Joined.{length_joined}
use Rattle.several_runs.proofs.Cursors.{Cursor, table_from, cursor_table}
use Rattle.several_runs.proofs.OnTurns.{factors_room}

module _ (sweeps count : ℕ) (at : ℕ → Run) (t : Tables) (factors₀ : List Float) (ok : turn_number sweeps count at t (length factors₀) ≡ 0) where
  abbrev made : ℕ → State
  made i = turned_at sweeps count at t factors₀ i

  abbrev front : ℕ → List Float
  front i = joined (λ j. (made j).factor) i

  length_made : (i : ℕ) → i < count → length (made i).factor ≡ used (at i)
  unfolding turned_at factor_at total
  length_made i l =
      let room = factors_room sweeps count at t (length factors₀) ok (i + 1) (omega arith) in
      length_sweeps (share_of sweeps count at i) (call_work (table_at t i)) (at i) (take (used (at i)) (drop (total i (λ j. used (at j))) factors₀))
      ∙ length-take-le (used (at i)) (drop (total i (λ j. used (at j))) factors₀) (rw (length-drop (total i (λ j. used (at j))) factors₀) (left _ _ _ (rw (add-one i) at room)))
    where
      left : (a b c : ℕ) → a + b ≤ c → b ≤ c - a
      left a b c h = omega arith

  length_front : (i : ℕ) → i ≤ count → length (front i) ≡ factor_at at i
  unfolding factor_at
  length_front i l = length_joined (λ j. (made j).factor) i ∙ total_ext i _ _ (λ j h. length_made j (omega arith))

  pub start : factors₀ ≡ over (front 0) factors₀
  unfolding joined
  start = refl

  module _ {i entries costs place opens before k : ℕ} {factors : List Float} (l : i < count) (c : Cursor at t (length factors₀) i entries costs place)
      (o : opens ≡ open_below at count) (b : before ≡ open_below at i) (f : factors ≡ over (front i) factors₀) (s : k ≡ only_open (at i).stage (share sweeps opens before)) where
    front_long : length (front i) ≡ place
    front_long = length_front i (omega arith) ∙ sym c.place_is

    rest_is : drop place factors ≡ drop place factors₀
    rest_is = ap (drop place) f ∙ drop_at (front i) (drop (length (front i)) factors₀) place front_long ∙ ap (λ (x : ℕ). drop x factors₀) front_long

    share_is : k ≡ share_of sweeps count at i
    unfolding share_of
    share_is = s ∙ ap₂ (λ (x y : ℕ). only_open (at i).stage (share sweeps x y)) o b

    made_is : sweeps_up_to k (call_work (table_from t i entries costs)) (at i) (take (used (at i)) (drop place factors)) ≡ made i
    unfolding turned_at
    made_is =
        ap (λ (x : List Float). sweeps_up_to k (call_work (table_from t i entries costs)) (at i) (take (used (at i)) x)) (rest_is ∙ ap (λ (x : ℕ). drop x factors₀) c.place_is)
        ∙ ap₂ (λ (x : ℕ) (w : Work). sweeps_up_to x w (at i) (take (used (at i)) (drop (factor_at at i) factors₀))) share_is (ap call_work (cursor_table at t (length factors₀) c))

    -- of the hall that is cut there
    pub step : {hall : CostTable} {run' : Run} {factors' : List Float} → hall ≡ table_from t i entries costs
        → (run' ≡ (sweeps_up_to k (call_work hall) (at i) (take (used (at i)) (drop place factors))).run)
        × (factors' ≡ take place factors ++ ((sweeps_up_to k (call_work hall) (at i) (take (used (at i)) (drop place factors))).factor ++ drop (used (at i)) (drop place factors)))
        → (run' ≡ (made i).run) × (factors' ≡ over (front (i + 1)) factors₀)
    unfolding joined
    step {hall} h e = (
      e.0 ∙ ap (λ (x : State). x.run) hall_made,
      e.1
          ∙ ap₂ (λ (x : List Float) (y : State). x ++ (y.factor ++ drop (used (at i)) (drop place factors))) (ap (take place) f ∙ take_at (front i) _ place front_long) hall_made
          ∙ ap (λ (x : List Float). front i ++ ((made i).factor ++ x)) (ap (drop (used (at i))) rest_is ∙ drop-drop (used (at i)) place factors₀)
          ∙ sym (append_assoc (front i) (made i).factor (drop (place + used (at i)) factors₀))
          ∙ ap (λ (x : ℕ). (front i ++ (made i).factor) ++ drop x factors₀) (sym both_long)
          ∙ ap (λ (x : ℕ). over (front x) factors₀) (sym (add-one i)),
    )
      where
        hall_made : sweeps_up_to k (call_work hall) (at i) (take (used (at i)) (drop place factors)) ≡ made i
        hall_made = ap (λ (x : CostTable). sweeps_up_to k (call_work x) (at i) (take (used (at i)) (drop place factors))) h ∙ made_is

        both_long : length (front i ++ (made i).factor) ≡ place + used (at i)
        both_long = length-append (front i) (made i).factor ∙ ap₂ (λ (x y : ℕ). x + y) front_long (length_made i l)
