-- What holds where a call is accepted, and how its answer is put together.
use Rattle.std.specs.Prelude.{Ok, Err}
use mathlib.Core.Path.{◌≡◌, refl, sym, ◌∙◌, ap}
use mathlib.Core.Bool.{Bool, false}
use mathlib.Core.List.{List, [], ◌∷◌}
use Prim.Native.Nat.{ℕ, zero, suc, ◌+◌, ◌*◌, ◌-◌, ◌≤◌, ◌<◌}
use native.Mathlib.Omega.{arith}
use borrow.Author.Tests.{le-ltb, ltb-false}
use lib.Dec.{ltb}
use lib.ListN.{length, length-map}
use lib.IntN.{ℤ}
use Rattle.laws.specs.Refusal.{◌if◌, first, short}
use Rattle.laws.proofs.Refusal.{clear, first_head, first_rest}
use Rattle.laws.proofs.Parts.{over_sets}
use Rattle.laws.proofs.Any.{any_head, any_rest, any_not, any_none}
use Rattle.limits.specs.Limits.{most_wagons, most_entries, most_magnitude, most_signs, most_sign_entries, most_sign_magnitude}
use Rattle.tables.specs.Table.{Table, Lent, InRange, table_of, magnitude_of}
use Rattle.tables.specs.Check.{bad_size, short_table, Hall, Accepted}
use Rattle.tables.proofs.Checks.{long_enough, table_lent, table_accepted, hall_accepted, size_passes}
use Rattle.laws.specs.Lists.{elem_z, over}
use Rattle.sign_table.specs.SignTable.{rows_of, cols_of, values_of, sign_places}
use Rattle.sign_table.specs.Walk.{Room, Wrote}
use Rattle.sign_table.proofs.Built.{room_less}
use Rattle.sign_table.proofs.Sizes.{sign_count}
use Rattle.table_calls.specs.Answer.{answered}
use Rattle.table_calls.specs.Convert.{Converts}
use Rattle.table_calls.specs.Numbers.{bad_signs, sign_table_number, hall_number_in, floor_number, objective_short, objective_number, decode_short, decode_number, cost_short, cost_number, room_short, sign_short, sign_number}

-- ---- answers

module _ {A : Type 0} where
  pub refused_is : (number : ℕ) (refused : ℕ → A) (accepted : A) {r : ℕ} → r ≡ number → (r ≡ 0 → ⊥) → refused r ≡ answered number refused accepted
  unfolding answered
  refused_is zero refused accepted e n = absurd (n e)
  refused_is (suc k) refused accepted e n = ap refused e

  pub accepted_is : (number : ℕ) (refused : ℕ → A) (accepted : A) {r : ℕ} → r ≡ number → r ≡ 0 → accepted ≡ answered number refused accepted
  unfolding answered
  accepted_is zero refused accepted e z = refl
  accepted_is (suc k) refused accepted e z = let no : ◌≡◌ {A = ℕ} (suc k) 0 = sym e ∙ z in absurd (omega arith)

pub short_open : {t : Bool} (n l : ℕ) → t ≡ false → short t n l ≡ ltb l n
unfolding short
short_open n l e = rw e

-- 31 first, then the others
pub after_short : {s s' : Bool} (k : ℕ) {r : ℕ} → s ≡ s' → r ≡ first (31 if s ∷ k ∷ []) → r ≡ first (31 if s' ∷ k ∷ [])
after_short k e h = rw (← e) h

pub two_parts : (s : Bool) (k : ℕ) → first (31 if s ∷ k ∷ []) ≡ 0 → (s ≡ false) × (k ≡ 0)
two_parts s k ok = (clear s 30 (first_head (31 if s) (k ∷ []) ok), first_head k [] (first_rest (31 if s) (k ∷ []) ok))

-- ---- a sign table

pub signs_passes : (m : ℕ) → 1 ≤ m → m ≤ most_signs → bad_signs m ≡ false
unfolding bad_signs
signs_passes m a b = any_not _ _ (le-ltb m 1 a) (any_not _ _ (le-ltb most_signs m b) any_none)

pub signs_parts : (m : ℕ) → bad_signs m ≡ false → (1 ≤ m) × (m ≤ most_signs)
unfolding bad_signs
signs_parts m e = (ltb-false m 1 (any_head _ _ e), ltb-false most_signs m (any_head _ _ (any_rest _ _ e)))

module _ (m count : ℕ) (rows cols : List ℕ) (values : List ℤ) where
  pub floor_numbered : {s : Bool} {r : ℕ} → s ≡ short_table most_sign_entries count (length rows) (length cols) (length values) → r ≡ first (31 if s ∷ sign_table_number m count rows cols values ∷ []) → r ≡ floor_number m count rows cols values
  unfolding floor_number
  floor_numbered e h = after_short _ e h

  -- what `floor_eighths` and `entrywise_lower_bound` work on
  pub floor_accepted : floor_number m count rows cols values ≡ 0 → Lent count rows cols values × Accepted most_signs most_sign_entries most_sign_magnitude m (table_of count rows cols values)
  unfolding floor_number
  floor_accepted ok =
      let (s, k) = two_parts _ _ ok in
      let t : Accepted most_signs most_sign_entries most_sign_magnitude m (table_of count rows cols values) = table_accepted k in
      (table_lent s t.entries, t)

  module _ (signs : List ℕ) where
    pub objective_lent : objective_short m count rows cols values signs ≡ false → count ≤ most_sign_entries → Lent count rows cols values
    unfolding objective_short
    objective_lent ok h = table_lent (any_head _ _ ok) h

    signs_long : objective_short m count rows cols values signs ≡ false → bad_signs m ≡ false → m ≤ length signs
    unfolding objective_short
    signs_long ok good = long_enough (any_head _ _ (any_rest _ _ ok)) good

    pub objective_numbered : {s : Bool} {r : ℕ} → s ≡ objective_short m count rows cols values signs → r ≡ first (31 if s ∷ sign_table_number m count rows cols values ∷ []) → r ≡ objective_number m count rows cols values signs
    unfolding objective_number
    objective_numbered e h = after_short _ e h

    -- what `obj_rounded` works on
    pub objective_accepted : objective_number m count rows cols values signs ≡ 0
        → Lent count rows cols values × InRange (length signs) (table_of count rows cols values) × (magnitude_of (table_of count rows cols values) ≤ most_sign_magnitude)
    unfolding objective_number
    objective_accepted ok =
        let (s, k) = two_parts (objective_short m count rows cols values signs) _ ok in
        let t : Accepted most_signs most_sign_entries most_sign_magnitude m (table_of count rows cols values) = table_accepted k in
        let long : m ≤ length signs = signs_long s (signs_passes m t.some t.signs) in (
          objective_lent s t.entries,
          record { rows_in = λ k h. omega (arith, t.in_range.rows_in k h); cols_in = λ k h. omega (arith, t.in_range.cols_in k h) },
          t.magnitude,
        )

-- ---- decoding

module _ (m : ℕ) (signs b : List ℕ) where
  pub decode_accepted : decode_number m signs b ≡ 0 → (1 ≤ m) × (m - 1 < length signs) × (m - 1 ≤ length b)
  unfolding decode_number decode_short
  decode_accepted ok =
      let (s, k) = two_parts (decode_short m signs b) _ ok in
      let good : bad_signs m ≡ false = clear (bad_signs m) 12 k in
      let some = signs_parts m good in
      let long : m ≤ length signs = long_enough (any_head _ _ s) good in
      let room : m - 1 ≤ length b = long_enough (any_head _ _ (any_rest _ _ s)) good in
      omega arith

-- ---- (H, c)

module _ (n count : ℕ) (rows cols : List ℕ) (values c : List ℤ) (b : List ℕ) where
  pub cost_lent : cost_short n count rows cols values c b ≡ false → (count ≤ most_entries → Lent count rows cols values) × (n ≤ most_wagons → n ≤ length c)
  unfolding cost_short
  cost_lent ok = (λ h. table_lent (any_head _ _ ok) h, λ h. long_enough (any_head _ _ (any_rest _ _ ok)) (le-ltb most_wagons n h))

  choice_long : cost_short n count rows cols values c b ≡ false → n ≤ most_wagons → n ≤ length b
  unfolding cost_short
  choice_long ok h = long_enough (any_head _ _ (any_rest _ _ (any_rest _ _ ok))) (le-ltb most_wagons n h)

  pub cost_numbered : {s : Bool} {r : ℕ} → s ≡ cost_short n count rows cols values c b → r ≡ first (31 if s ∷ hall_number_in n count rows cols values c ∷ []) → r ≡ cost_number n count rows cols values c b
  unfolding cost_number
  cost_numbered e h = after_short _ e h

  -- the choice that `eval_qubo_objective` works on
  pub choice_there : cost_number n count rows cols values c b ≡ 0 → n ≤ length b
  unfolding cost_number
  choice_there ok =
      let (s, k) = two_parts (cost_short n count rows cols values c b) _ ok in
      let hall : Hall most_wagons most_entries most_magnitude n (table_of count rows cols values) (elem_z c) = hall_accepted k in
      choice_long s hall.wagons

module _ (n count : ℕ) (rows cols : List ℕ) (values c : List ℤ) (toRows toCols : List ℕ) (toValues : List ℤ) where
  pub sign_lent : sign_short n count rows cols values c toRows toCols toValues ≡ false → (count ≤ most_entries → Lent count rows cols values) × (n ≤ most_wagons → n ≤ length c)
  unfolding sign_short
  sign_lent ok = (λ h. table_lent (any_head _ _ ok) h, λ h. long_enough (any_head _ _ (any_rest _ _ ok)) (le-ltb most_wagons n h))

  room_long : sign_short n count rows cols values c toRows toCols toValues ≡ false → n ≤ most_wagons → count ≤ most_entries → Room 0 (count + 3 * n + 1) toRows toCols toValues
  unfolding sign_short room_short
  room_long ok h l =
      let good : bad_size 0 most_wagons most_entries n count ≡ false = size_passes 0 most_wagons most_entries n count (omega arith) h l in
      let s = any_head _ _ (any_rest _ _ (any_rest _ _ ok)) in
      let rows_long : count + 3 * n + 1 ≤ length toRows = long_enough (any_head _ _ s) good in
      let cols_long : count + 3 * n + 1 ≤ length toCols = long_enough (any_head _ _ (any_rest _ _ s)) good in
      let values_long : count + 3 * n + 1 ≤ length toValues = long_enough (any_head _ _ (any_rest _ _ (any_rest _ _ s))) good in
      record { rows_room = omega arith; cols_room = omega arith; values_room = omega arith }

  pub sign_numbered : {s : Bool} {r : ℕ} → s ≡ sign_short n count rows cols values c toRows toCols toValues → r ≡ first (31 if s ∷ hall_number_in n count rows cols values c ∷ []) → r ≡ sign_number n count rows cols values c toRows toCols toValues
  unfolding sign_number
  sign_numbered e h = after_short _ e h

  -- what `qubo_sign_table` works on
  pub sign_accepted : sign_number n count rows cols values c toRows toCols toValues ≡ 0
      → Lent count rows cols values × (n ≤ length c) × Room 0 (count + 3 * n + 1) toRows toCols toValues × Hall most_wagons most_entries most_magnitude n (table_of count rows cols values) (elem_z c)
  unfolding sign_number
  sign_accepted ok =
      let (s, k) = two_parts (sign_short n count rows cols values c toRows toCols toValues) _ ok in
      let hall : Hall most_wagons most_entries most_magnitude n (table_of count rows cols values) (elem_z c) = hall_accepted k in
      ((sign_lent s).0 hall.entries, (sign_lent s).1 hall.wagons, room_long s hall.wagons hall.entries, hall)

-- ---- the conversion's slices

module _ {value : ℕ → ℕ → ℤ} {ps : List (ℕ × ℕ)} {rows cols : List ℕ} {values : List ℤ} (number : ℕ) {r : ℕ} (is : r ≡ number) where
  pub refused_converts : (r ≡ 0 → ⊥) → Converts number value ps rows cols values (Err r) rows cols values
  refused_converts n =
      record {
        answers = refused_is number Err (Ok (length ps)) is n;
        rows_are = refused_is number (λ _. rows) (over (rows_of ps) rows) is n;
        cols_are = refused_is number (λ _. cols) (over (cols_of ps) cols) is n;
        values_are = refused_is number (λ _. values) (over (values_of value ps) values) is n;
      }

  pub accepted_converts : {rows' cols' : List ℕ} {values' : List ℤ} {count : ℕ} → r ≡ 0 → Wrote value ps 0 rows cols values rows' cols' values' → Room 0 (length ps) rows cols values → count ≡ length ps
      → Converts number value ps rows cols values (Ok count) rows' cols' values'
  accepted_converts z w room many =
      record {
        answers = ap Ok many ∙ accepted_is number Err (Ok (length ps)) is z;
        rows_are = w.rows_are ∙ over_sets (rows_of ps) rows (omega (arith, length-map ps (λ p. p.0), room.rows_room)) ∙ accepted_is number (λ _. rows) (over (rows_of ps) rows) is z;
        cols_are = w.cols_are ∙ over_sets (cols_of ps) cols (omega (arith, length-map ps (λ p. p.1), room.cols_room)) ∙ accepted_is number (λ _. cols) (over (cols_of ps) cols) is z;
        values_are = w.values_are ∙ over_sets (values_of value ps) values (omega (arith, length-map ps (λ p. value p.0 p.1), room.values_room)) ∙ accepted_is number (λ _. values) (over (values_of value ps) values) is z;
      }

-- the entries of the sign table have room
pub enough_room : {n : ℕ} {h : Table} (c : ℕ → ℤ) {rows cols : List ℕ} {values : List ℤ} → InRange n h → Room 0 (h.count + 3 * n + 1) rows cols values → Room 0 (length (sign_places n h c)) rows cols values
enough_room c r room = room_less room (sign_count c r)
