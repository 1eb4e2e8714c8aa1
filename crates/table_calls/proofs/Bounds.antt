-- What an accepted call of `entrywise_lower_bound` answers, from its contract: finite and at most the objective of any signs; on a table that
-- `qubo_sign_table` left, at most the cost of every choice. Assumes nothing.
--     bound_call, bound_call_cost
use Rattle.std.specs.Prelude.{Result, Ok, Err}
use mathlib.Core.Path.{◌≡◌, refl, sym, ◌∙◌, subst}
use mathlib.Core.List.{List}
use Prim.Native.Nat.{ℕ}
use native.Mathlib.Nat.{le_trans}
use lib.Dec.{lit≤}
use lib.ListN.{length}
use lib.IntN.{ℤ}
use lib.Signed.{◌≤ℤ◌}
use lib.Ieee.{Float}
use Rattle.limits.specs.Limits.{most_wagons, most_entries, most_magnitude, most_signs, most_sign_entries, most_sign_magnitude}
use Rattle.tables.specs.Table.{Table, table_of, value_at, sign_at, objective_of, floor_of}
use Rattle.tables.specs.Cost.{cost_eighths, choice_at}
use Rattle.tables.specs.Check.{Hall, Accepted}
use Rattle.tables.specs.Bound.{entrywise}
use Rattle.tables.proofs.Theorems.{floor_le_objective}
use Rattle.sign_table.specs.SignTable.{sign_places}
use Rattle.sign_table.proofs.Slices.{Holds, built_floor}
use Rattle.table_calls.specs.Answer.{bound_answer}
use Rattle.table_calls.specs.Numbers.{floor_number}
use Rattle.table_calls.proofs.Accepting.{floor_accepted, accepted_is}
use Rattle.float_bound.specs.Below.{AtMostEighths}
use Rattle.float_bound.proofs.Theorem.{at_most_more, bound_below_floor}

module _ (m count : ℕ) (rows cols : List ℕ) (values : List ℤ) {answer : Result Float ℕ}
    (is : answer ≡ bound_answer (floor_number m count rows cols values) (entrywise (table_of count rows cols values)))
    (ok : floor_number m count rows cols values ≡ 0) where
  abbrev t : Table
  t = table_of count rows cols values

  accepted : Accepted most_signs most_sign_entries most_sign_magnitude m t
  accepted = (floor_accepted m count rows cols values ok).1

  answers : answer ≡ Ok (entrywise t)
  answers = is ∙ sym (accepted_is _ Err (Ok (entrywise t)) refl ok)

  under : {v : ℤ} → floor_of t ≤ℤ v → AtMostEighths (entrywise t) v
  under l = at_most_more (bound_below_floor t (le_trans accepted.magnitude (lit≤ tt)) (le_trans accepted.entries (lit≤ tt))) l

  pub bound_call : (x : Float) × (answer ≡ Ok x) × ((signs : List ℕ) → AtMostEighths x (objective_of (table_of count rows cols values) (sign_at signs)))
  bound_call = (entrywise t, answers, λ signs. under (floor_le_objective accepted signs))

  pub bound_call_cost : {n : ℕ} {h : Table} {c : ℕ → ℤ} → Hall most_wagons most_entries most_magnitude n h c → Holds n h c rows cols values → count ≡ length (sign_places n h c)
      → (x : Float) × (answer ≡ Ok x) × ((b : List ℕ) → AtMostEighths x (cost_eighths n (value_at h) c (choice_at b)))
  bound_call_cost {n} {h} {c} hall holds many = (
    entrywise t,
    answers,
    λ b. under (subst (λ (k : ℕ). floor_of (table_of k rows cols values) ≤ℤ cost_eighths n (value_at h) c (choice_at b)) (sym many) (built_floor hall holds b)),
  )
