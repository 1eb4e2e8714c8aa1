-- The entries as they are read: those that are there whole are stored and judged, then a cut one is seen.
use Prim.Native.Nat.{ℕ, ◌+◌, ◌*◌, ◌<◌, ◌≤◌}
use mathlib.Core.Path.{◌≡◌, refl, sym, ap, ◌∙◌}
use mathlib.Core.Bool.{Bool, true, false}
use mathlib.Core.List.{List, [], ◌∷◌}
use mathlib.Core.Logic.{◌⊎◌, inl, inr}
use native.Mathlib.Omega.{arith}
use native.Mathlib.Nat.{eq-or-lt_of_le}
use borrow.Author.Tests.{lt-ltb, le-ltb}
use lib.Dec.{ltb}
use lib.ListN.{length}
use lib.IntN.{ℤ, pos, nat_abs}
use Rattle.laws.specs.Refusal.{◌if◌, first, or_else, first_of}
use Rattle.laws.specs.Sum.{total}
use Rattle.laws.specs.Lists.{elem, elem_z, fill}
use Rattle.laws.proofs.Refusal.{pass}
use Rattle.laws.proofs.Following.{answers, moves_on, answers_if, moves_on_if, answers_last, passes_last, first_of_if, first_of_ext, first_of_stops}
use Rattle.limits.specs.Limits.{most_magnitude}
use Rattle.tables.specs.Table.{table_of}
use Rattle.tables.specs.Check.{bad_entry, bad_order, unmirrored, Placed, hall_magnitude}
use Rattle.tables.proofs.Checks.{order_placed}
use Rattle.job_record.specs.Fields.{wagons, entry_count, entry_at, costs_end, row, column, value, entries, signed_from}
use Rattle.job_record.specs.Number.{ends_before, entry_number, entries_numbers, costs_numbers, job_table_number}
use Rattle.job_record.specs.Values.{job_cost, Entered, Stored}
use Rattle.job_record.proofs.Same.{filled, order_same, mirror_same, magnitude_same}

-- 11 is none
eleven : ◌≡◌ {A = ℕ} 11 0 → ⊥
eleven e = omega arith

-- a row that was gone through
pub ended : (f : ℕ → ℕ) (i n : ℕ) → first_of f i ≡ 0 → i ≤ n → n ≤ i → 0 ≡ first_of f n
ended f i n none up down = let e : n ≡ i = omega arith in rw e (sym none)

-- room for the count is room for the whole ones
pub fits : {count whole : ℕ} (s rows cols : List ℕ) (values : List ℤ) → whole ≤ count → (8 ≤ length s) × (count ≤ length rows) × (count ≤ length cols) × (count ≤ length values)
    → (whole ≤ length rows) × (whole ≤ length cols) × (whole ≤ length values)
fits _ _ _ _ few room = (omega arith, omega arith, omega arith)

module _ (s : List ℕ) (n count whole : ℕ) (w : (whole ≤ count) × (entry_at whole ≤ length s) × (whole < count → length s < entry_at whole + 10)) where
  judged : (k : ℕ) → k < whole → entry_number s n k ≡ 14 if bad_entry n (row s) (column s) k
  unfolding entry_number
  judged k l = sym (moves_on_if 11 (ends_before s (entry_at k + 10)) (14 if bad_entry n (row s) (column s) k ∷ []) (le-ltb (length s) (entry_at k + 10) (omega arith)) (answers_last _ refl))

  whole_ones : first_of (entry_number s n) whole ≡ 14 if bad_order n (row s) (column s) whole
  unfolding bad_order
  whole_ones = first_of_ext _ _ whole judged ∙ first_of_if 13 (bad_entry n (row s) (column s)) whole

  cut_one : whole < count → 11 ≡ entry_number s n whole
  unfolding entry_number
  cut_one l = answers_if 10 (ends_before s (entry_at whole + 10)) _ (lt-ltb _ _ (w.2 l))

  bad_one : bad_order n (row s) (column s) whole ≡ true → 14 ≡ first_of (entry_number s n) count
  unfolding or_else
  bad_one bad = go (eq-or-lt_of_le w.0)
    where
      go : (whole ≡ count) ⊎ (whole < count) → 14 ≡ first_of (entry_number s n) count
      go (inl e) = rw (← e, whole_ones, bad)
      go (inr l) = rw (first_of_stops (entry_number s n) whole count l (λ z. eleven (cut_one l ∙ z)), whole_ones, bad)

  cut_after : bad_order n (row s) (column s) whole ≡ false → whole < count → 11 ≡ first_of (entry_number s n) count
  unfolding or_else
  cut_after ok l = rw (first_of_stops (entry_number s n) whole count l (λ z. eleven (cut_one l ∙ z)), whole_ones, ok) (cut_one l)

  none : bad_order n (row s) (column s) whole ≡ false → count ≤ whole → 0 ≡ first_of (entry_number s n) count
  none ok l = ended (entry_number s n) whole count (rw (whole_ones, ok)) w.0 l

  module _ {rows cols : List ℕ} {values : List ℤ} (rows₀ cols₀ : List ℕ) (values₀ : List ℤ)
      (room : (whole ≤ length rows₀) × (whole ≤ length cols₀) × (whole ≤ length values₀))
      (r : rows ≡ fill (row s) whole rows₀) (k : cols ≡ fill (column s) whole cols₀) (v : values ≡ fill (value s) whole values₀) where
    rows_are : (i : ℕ) → i < whole → elem rows i ≡ row s i
    rows_are i l = rw r (filled (row s) rows₀ 0 whole room.0 i l)

    cols_are : (i : ℕ) → i < whole → elem cols i ≡ column s i
    cols_are i l = rw k (filled (column s) cols₀ 0 whole room.1 i l)

    values_in : (i : ℕ) → i < whole → elem_z values i ≡ value s i
    values_in i l = rw v (filled (value s) values₀ (pos 0) whole room.2 i l)

    order_is : bad_order n (elem rows) (elem cols) whole ≡ bad_order n (row s) (column s) whole
    order_is = order_same _ _ _ _ whole rows_are cols_are n

    module _ {bad : Bool} (judgement : bad ≡ bad_order n (elem rows) (elem cols) whole) where
      pub refused_14 : bad ≡ true → (14 ≡ first (entries_numbers s n count)) × (◌≡◌ {A = ℕ} 14 0 → Entered s count rows₀ cols₀ values₀ rows cols values)
      unfolding entries_numbers
      refused_14 t = (answers _ _ (bad_one (sym order_is ∙ sym judgement ∙ t)) (λ z. omega arith), λ z. absurd (omega arith))

      module _ (passed : bad ≡ false) where
        ok : bad_order n (row s) (column s) whole ≡ false
        ok = sym order_is ∙ sym judgement ∙ passed

        pub refused_11 : whole < count → (11 ≡ first (entries_numbers s n count)) × (◌≡◌ {A = ℕ} 11 0 → Entered s count rows₀ cols₀ values₀ rows cols values)
        unfolding entries_numbers
        refused_11 l = (answers _ _ (cut_after ok l) (λ z. omega arith), λ z. absurd (omega arith))

        module _ (all : count ≤ whole) where
          same : whole ≡ count
          same = omega arith

          pub placed : n ≤ 65536 → Placed (elem rows) (elem cols) count
          placed h = order_placed n (table_of count rows cols values) (omega arith) (rw (← same) (sym judgement ∙ passed))

          mirrors_are : unmirrored (table_of count rows cols values) ≡ unmirrored (entries s count)
          mirrors_are = rw (← same) (mirror_same _ _ _ _ whole rows_are cols_are values_in)

          pub refused_15 : {u : Bool} → u ≡ unmirrored (table_of count rows cols values) → u ≡ true
              → (15 ≡ first (entries_numbers s n count)) × (◌≡◌ {A = ℕ} 15 0 → Entered s count rows₀ cols₀ values₀ rows cols values)
          unfolding entries_numbers
          refused_15 e t = (moves_on _ _ {x = 0} (none ok all) refl (answers_if 14 _ [] (sym mirrors_are ∙ sym e ∙ t)), λ z. absurd (omega arith))

          pub accepted : {u : Bool} → u ≡ unmirrored (table_of count rows cols values) → u ≡ false
              → (0 ≡ first (entries_numbers s n count)) × (◌≡◌ {A = ℕ} 0 0 → Entered s count rows₀ cols₀ values₀ rows cols values)
          unfolding entries_numbers
          accepted e t = (moves_on _ _ {x = 0} (none ok all) refl (passes_last 15 _ (sym mirrors_are ∙ sym e ∙ t)), λ z. record { in_rows = rw (← same) r; in_cols = rw (← same) k; in_values = rw (← same) v })

-- the values, one by one
pub values_are : (s : List ℕ) (count : ℕ) {rows₀ cols₀ rows cols : List ℕ} {values₀ values : List ℤ} → Entered s count rows₀ cols₀ values₀ rows cols values → count ≤ length values₀
    → (i : ℕ) → i < count → elem_z values i ≡ value s i
values_are s count {values₀ = values₀} e room i l = rw e.in_values (filled (value s) values₀ (pos 0) count room i l)

-- c and the magnitude
module _ (s : List ℕ) (n count : ℕ) {c : List ℤ} (c₀ values : List ℤ) (k : c ≡ fill (signed_from s (entry_at count)) n c₀) (fk : n ≤ length c₀)
    (v : (i : ℕ) → i < count → elem_z values i ≡ value s i) where
  pub magnitude_is : total count (λ i. nat_abs (elem_z values i)) + 2 * total n (λ i. nat_abs (elem_z c i)) ≡ hall_magnitude n (entries s count) (signed_from s (entry_at count))
  magnitude_is = magnitude_same n count v (λ i l. ap (λ (l : List ℤ). elem_z l i) k ∙ filled (signed_from s (entry_at count)) c₀ (pos 0) n fk i l)

  -- the number of c that is there, by the test's result
  pub costs_judged : costs_end n count ≤ length s → {b t : Bool} → b ≡ ltb most_magnitude (total count (λ i. nat_abs (elem_z values i)) + 2 * total n (λ i. nat_abs (elem_z c i))) → b ≡ t
      → 16 if t ≡ first (costs_numbers s n count)
  unfolding costs_numbers
  costs_judged there q e = moves_on_if 11 _ _ (le-ltb _ _ there) (answers_last _ (ap (λ (b : Bool). 16 if b) (sym e ∙ q ∙ ap (ltb most_magnitude) magnitude_is)))

-- H and c of a head that is there
module _ (s : List ℕ) {n count : ℕ} (is-n : n ≡ wagons s) (is-count : count ≡ entry_count s) where
  pub table_passed : {x y : ℕ} → x ≡ first (entries_numbers s n count) → x ≡ 0 → y ≡ first (costs_numbers s n count) → y ≡ job_table_number s
  table_passed e z f = rw (← is-n, ← is-count) (pass _ _ e z f)

  pub stored : {rows₀ cols₀ rows cols : List ℕ} {values₀ values c₀ c : List ℤ} → Entered s count rows₀ cols₀ values₀ rows cols values → c ≡ fill (signed_from s (entry_at count)) n c₀ → Stored s rows₀ cols₀ values₀ c₀ rows cols values c
  stored {rows₀} {cols₀} {values₀ = values₀} {c₀ = c₀} e k =
      record {
        in_rows = e.in_rows ∙ ap (λ (m : ℕ). fill (row s) m rows₀) is-count;
        in_cols = e.in_cols ∙ ap (λ (m : ℕ). fill (column s) m cols₀) is-count;
        in_values = e.in_values ∙ ap (λ (m : ℕ). fill (value s) m values₀) is-count;
        in_c = k ∙ ap (λ (m : ℕ). fill (signed_from s (entry_at m)) n c₀) is-count ∙ ap (λ (m : ℕ). fill (job_cost s) m c₀) is-n;
      }
