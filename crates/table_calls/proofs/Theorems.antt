-- What the calls' answers are worth. To whoever has (H, c): the table that `qubo_sign_table` leaves is taken by every call on sign tables, its
-- objective is the cost, and its floor stands below every choice. To whoever has a sign table: what `floor_eighths` answers is at most the
-- objective of any signs (`floor_call`), and at most what `obj_rounded` answers (`floor_under_objective`).
use Rattle.std.specs.Prelude.{Result, Ok, Err}
use mathlib.Core.Path.{◌≡◌, refl, sym, ◌∙◌}
use mathlib.Core.List.{List}
use Prim.Native.Nat.{ℕ, suc, ◌-◌}
use native.Mathlib.Omega.{arith}
use lib.ListN.{length}
use lib.IntN.{ℤ}
use lib.Signed.{◌≤ℤ◌}
use Rattle.laws.specs.Lists.{elem_z, over, fill}
use Rattle.limits.specs.Limits.{most_wagons, most_entries, most_magnitude}
use Rattle.tables.specs.Table.{Table, table_of, value_at, sign_at, objective_of, floor_of}
use Rattle.tables.specs.Cost.{cost_eighths, decoded_byte, decoded, choice_at}
use Rattle.tables.specs.Check.{Hall}
use Rattle.tables.proofs.Checks.{table_passes}
use Rattle.tables.proofs.Choices.{decoded_cost}
use Rattle.tables.proofs.Theorems.{floor_le_objective}
use Rattle.sign_table.specs.SignTable.{rows_of, cols_of, values_of, sign_of, sign_places}
use Rattle.sign_table.proofs.Slices.{Holds, over_holds, built_accepted, built_objective, built_floor}
use Rattle.table_calls.specs.Answer.{eighths_answer, kept_if_refused}
use Rattle.table_calls.specs.Numbers.{sign_table_number, floor_number, objective_number, sign_number, decode_number}
use Rattle.table_calls.specs.Convert.{Converts}
use Rattle.table_calls.proofs.Accepting.{floor_accepted, sign_accepted, decode_accepted, accepted_is}

-- an accepted call of `qubo_sign_table`
module _ (n count : ℕ) (rows cols : List ℕ) (values c : List ℤ) (toRows toCols : List ℕ) (toValues : List ℤ) {answer : Result ℕ ℕ} {rows' cols' : List ℕ} {values' : List ℤ}
    (w : Converts (sign_number n count rows cols values c toRows toCols toValues) (sign_of n (table_of count rows cols values) (elem_z c)) (sign_places n (table_of count rows cols values) (elem_z c)) toRows toCols toValues answer rows' cols' values')
    (ok : sign_number n count rows cols values c toRows toCols toValues ≡ 0) where
  hall : Hall most_wagons most_entries most_magnitude n (table_of count rows cols values) (elem_z c)
  hall = (sign_accepted n count rows cols values c toRows toCols toValues ok).3

  pub holds : Holds n (table_of count rows cols values) (elem_z c) rows' cols' values'
  holds =
      let ps = sign_places n (table_of count rows cols values) (elem_z c) in
      over_holds n (table_of count rows cols values) (elem_z c) toRows toCols toValues
      (w.rows_are ∙ sym (accepted_is _ (λ _. toRows) (over (rows_of ps) toRows) refl ok))
      (w.cols_are ∙ sym (accepted_is _ (λ _. toCols) (over (cols_of ps) toCols) refl ok))
      (w.values_are ∙ sym (accepted_is _ (λ _. toValues) (over (values_of (sign_of n (table_of count rows cols values) (elem_z c)) ps) toValues) refl ok))

  -- it answers how many entries there are
  pub counted : answer ≡ Ok (length (sign_places n (table_of count rows cols values) (elem_z c)))
  counted = w.answers ∙ sym (accepted_is _ Err _ refl ok)

  -- none of 13 to 16 applies to them, as a table of n + 1 signs
  pub table_taken : sign_table_number (suc n) (length (sign_places n (table_of count rows cols values) (elem_z c))) rows' cols' values' ≡ 0
  table_taken = table_passes (built_accepted hall holds)

  -- their objective at any signs is eight times the cost of what the signs decode to
  pub objective_is_cost : (signs : List ℕ) → objective_of (table_of (length (sign_places n (table_of count rows cols values) (elem_z c))) rows' cols' values') (sign_at signs)
      ≡ cost_eighths n (value_at (table_of count rows cols values)) (elem_z c) (decoded n signs)
  objective_is_cost signs = built_objective hall holds signs

  -- their floor is at most eight times the cost of every choice
  pub floor_is_below : (b : List ℕ) → floor_of (table_of (length (sign_places n (table_of count rows cols values) (elem_z c))) rows' cols' values')
      ≤ℤ cost_eighths n (value_at (table_of count rows cols values)) (elem_z c) (choice_at b)
  floor_is_below b = built_floor hall holds b

-- the choice that `qubo_binary_from_sign_solution` lends out costs what the signs do: for any (H, c), signs of n + 1 and room for n bytes
pub decoded_call : (n : ℕ) (h : Table) (c : ℕ → ℤ) (signs b : List ℕ) {b' : List ℕ} → decode_number (suc n) signs b ≡ 0
    → b' ≡ kept_if_refused (decode_number (suc n) signs b) b (fill (decoded_byte (suc n - 1) signs) (suc n - 1) b)
    → cost_eighths n (value_at h) c (choice_at b') ≡ cost_eighths n (value_at h) c (decoded n signs)
decoded_call n h c signs b {b'} ok is =
    let back : suc n - 1 ≡ n = omega arith in
    let wrote : b' ≡ fill (decoded_byte n signs) n b = (rw back at (is ∙ sym (accepted_is (decode_number (suc n) signs b) (λ _. b) (fill (decoded_byte (suc n - 1) signs) (suc n - 1) b) refl ok))) in
    let (some, long, room) = decode_accepted (suc n) signs b ok in
    rw wrote (decoded_cost n (value_at h) c signs b (rw back at room))

-- an accepted call of `floor_eighths` on a sign table given directly
module _ (m count : ℕ) (rows cols : List ℕ) (values : List ℤ) {answer : Result ℤ ℕ}
    (is : answer ≡ eighths_answer (floor_number m count rows cols values) (floor_of (table_of count rows cols values)))
    (ok : floor_number m count rows cols values ≡ 0) where
  -- it answers a number of eighths, and no signs' objective is less
  pub floor_call : (floor : ℤ) × (answer ≡ Ok floor) × ((signs : List ℕ) → floor ≤ℤ objective_of (table_of count rows cols values) (sign_at signs))
  floor_call = (
    floor_of (table_of count rows cols values),
    is ∙ sym (accepted_is _ Err (Ok (floor_of (table_of count rows cols values))) refl ok),
    λ signs. floor_le_objective (floor_accepted m count rows cols values ok).1 signs,
  )

  -- so whatever `obj_rounded` answers on the same table, if it answers a number of eighths, isn't less
  pub floor_under_objective : (signs : List ℕ) {other : Result ℤ ℕ}
      → other ≡ eighths_answer (objective_number m count rows cols values signs) (objective_of (table_of count rows cols values) (sign_at signs))
      → objective_number m count rows cols values signs ≡ 0
      → (floor objective : ℤ) × (answer ≡ Ok floor) × (other ≡ Ok objective) × (floor ≤ℤ objective)
  floor_under_objective signs told good = (
    floor_call.0,
    objective_of (table_of count rows cols values) (sign_at signs),
    floor_call.1,
    told ∙ sym (accepted_is _ Err (Ok (objective_of (table_of count rows cols values) (sign_at signs))) refl good),
    floor_call.2 signs,
  )
