-- The numbers of the call: costs that aren't there count as 0, and what holds where no number applies.
-- Assumes nothing.
use mathlib.Core.Path.{◌≡◌, refl, sym, ap, ◌∙◌}
use mathlib.Core.Bool.{Bool, true, false}
use mathlib.Core.List.{List, [], ◌∷◌, ◌++◌}
use Prim.Native.Nat.{ℕ, ◌+◌, ◌-◌, ◌*◌, ◌<◌, ◌≤◌, min}
use native.Mathlib.Decide.{dec_lt}
use native.Mathlib.Omega.{arith}
use borrow.Author.Tests.{ltb-false, le-ltb}
use lib.Dec.{ltb}
use lib.IntN.{ℤ, pos, nat_abs}
use lib.ListN.{length, take, drop, replicate, get_or-append, get_or-replicate, get_or-eq_default}
use lib.Seq.{length-take-le, get_or-take, get_or-append_right}
use Rattle.std.proofs.lemmas.List.{get_or-drop}
use Rattle.laws.specs.Lists.{elem_z}
use Rattle.laws.specs.Refusal.{◌if◌, first}
use Rattle.laws.specs.Sum.{total}
use Rattle.laws.proofs.Any.{any_head, any_rest}
use Rattle.laws.proofs.Refusal.{first_head, first_rest, first_here, clear}
use Rattle.laws.proofs.Totals.{total_ext}
use Rattle.limits.specs.Limits.{most_wagons, most_entries, most_magnitude}
use Rattle.tables.specs.Table.{Table, table_of, Lent, magnitude_of}
use Rattle.tables.specs.Check.{bad_size, bad_order, unmirrored, hall_number, Hall}
use Rattle.tables.proofs.Checks.{size_parts, hall_accepted, table_lent, long_enough}
use Rattle.exhaustive.specs.Contract.{walk_short, walk_number}

-- the number looks at as many costs as there may be wagons
pub number_ext : (n : ℕ) (h : Table) (c c' : ℕ → ℤ) → ((i : ℕ) → i < most_wagons → c i ≡ c' i)
    → hall_number most_wagons most_entries most_magnitude n h c ≡ hall_number most_wagons most_entries most_magnitude n h c'
unfolding hall_number
number_ext n h c c' same = go (bad_size 0 most_wagons most_entries n h.count) refl
  where
    rest : (ℕ → ℤ) → List ℕ
    rest d = 14 if bad_order n h.row h.column h.count ∷ 15 if unmirrored h ∷ 16 if ltb most_magnitude (magnitude_of h + 2 * total n (λ i. nat_abs (d i))) ∷ []

    go : (b : Bool) → bad_size 0 most_wagons most_entries n h.count ≡ b → first (13 if b ∷ rest c) ≡ first (13 if b ∷ rest c')
    go true e = first_here 12 true (rest c) refl ∙ sym (first_here 12 true (rest c') refl)
    go false e =
        let few = (size_parts _ _ _ _ _ e).1 in
        let s : total n (λ i. nat_abs (c i)) ≡ total n (λ i. nat_abs (c' i)) = total_ext n _ _ (λ i l. ap nat_abs (same i (omega (arith, few)))) in
        ap (λ (k : ℕ). first (13 if false ∷ 14 if bad_order n h.row h.column h.count ∷ 15 if unmirrored h ∷ 16 if ltb most_magnitude (magnitude_of h + 2 * k) ∷ [])) s

-- those that are there over as many zeros
pub padded : (c zeros : List ℤ) (given : ℕ) {front : List ℤ} → given ≡ min (length c) most_wagons → zeros ≡ replicate most_wagons (pos 0) → front ≡ take given c
    → (i : ℕ) → i < most_wagons → elem_z (front ++ drop given zeros) i ≡ elem_z c i
padded c zeros given {front} e z f i h = go (dec_lt i given)
  where
    long : length front ≡ given
    long = ap length f ∙ length-take-le given c (omega arith)

    go : Dec (i < given) → elem_z (front ++ drop given zeros) i ≡ elem_z c i
    go (yes b) = get_or-append front (drop given zeros) (pos 0) i (omega (arith, long)) ∙ ap (λ l. elem_z l i) f ∙ get_or-take given c i (pos 0) b
    go (no b) =
        let at : given + (i - length front) ≡ i = omega (arith, long) in
        get_or-append_right front (drop given zeros) i (pos 0) (omega (arith, long)) ∙ get_or-drop given zeros (i - length front) (pos 0)
        ∙ ap (elem_z zeros) at ∙ ap (λ l. elem_z l i) z ∙ get_or-replicate most_wagons i (pos 0) (pos 0) h ∙ sym (get_or-eq_default c (pos 0) (omega arith))

-- ---- where no slice is short, and where no number applies

module _ (n count : ℕ) (rows cols : List ℕ) (values c : List ℤ) (b : ℕ) where
  pub slices_lent : walk_short n count (length rows) (length cols) (length values) (length c) b ≡ false → count ≤ most_entries → Lent count rows cols values
  unfolding walk_short
  slices_lent ok h = table_lent (any_head _ _ ok) h

  costs_lent : walk_short n count (length rows) (length cols) (length values) (length c) b ≡ false → n ≤ 16 → (n ≤ length c) × (n ≤ b)
  unfolding walk_short
  costs_lent ok h =
      let few = le-ltb 16 n h in
      (long_enough (any_head _ _ (any_rest _ _ ok)) few, long_enough (any_head _ _ (any_rest _ _ (any_rest _ _ ok))) few)

  pub walk_accepted : walk_number n count rows cols values c b ≡ 0
      → Lent count rows cols values × (n ≤ length c) × (n ≤ b) × (n ≤ 16) × Hall most_wagons most_entries most_magnitude n (table_of count rows cols values) (elem_z c)
  unfolding walk_number
  walk_accepted ok =
      let s = clear _ 30 (first_head _ _ ok) in
      let later = first_rest _ _ ok in
      let hall : Hall most_wagons most_entries most_magnitude n (table_of count rows cols values) (elem_z c) = hall_accepted (first_head _ _ later) in
      let few : n ≤ 16 = ltb-false 16 n (clear _ 23 (first_head _ _ (first_rest _ _ later))) in
      (slices_lent s hall.entries, (costs_lent s few).0, (costs_lent s few).1, few, hall)
