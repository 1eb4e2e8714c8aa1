-- The sign table of (H, c): in range, rising, mirrored, how many entries it has and of which magnitude.
use mathlib.Core.Path.{◌≡◌, refl, sym, ◌∙◌, ap}
use mathlib.Core.Bool.{Bool, true, false, not, cond}
use mathlib.Core.List.{List}
use Prim.Native.Nat.{ℕ, suc, ◌+◌, ◌*◌, ◌^◌, ◌<◌, ◌≤◌}
use native.Mathlib.Decide.{ℕ_discrete}
use native.Mathlib.Nat.{le_trans, mul-one}
use native.Mathlib.Omega.{arith}
use borrow.Author.Tests.{eq-eqb, ne_eqb}
use lib.ListN.{length}
use lib.Dec.{eqb}
use lib.IntN.{ℤ, pos, neg_ℤ, nat_abs, ◌*ℤ◌}
use Rattle.laws.specs.Sum.{sum, total, only}
use Rattle.std.proofs.lemmas.Int.{unsigned_abs-mul}
use Rattle.laws.proofs.Integer.{abs_add, abs_neg}
use Rattle.laws.proofs.Sums.{sum_abs, total_at}
use Rattle.laws.proofs.Totals.{onlyℕ, total_ext, total_mono, total_add, total_scale, total_const, total_only, total₂_suc}
use Rattle.tables.specs.Table.{Table, InRange, Rising, Mirrored, magnitude_of, value_at, stored_at}
use Rattle.tables.specs.Check.{Hall}
use Rattle.sign_table.specs.SignTable.{absorbed, row_places, places, is_zero, kept_of, sign_of, sign_places, sign_table}
use Rattle.sign_table.specs.Walk.{row_total, Room, Convertible}
use Rattle.tables.proofs.Kept.{places_range, places_rising, places_mirrored, places_number, places_magnitude}
use Rattle.tables.proofs.Weights.{kept_le, abs_only, spread, value_le}
use Rattle.tables.proofs.Mirrors.{stored_true, stored_here, mirrored_symmetric}
use Rattle.sign_table.proofs.Costs.{inner, column, row, sign_symmetric, absorbed_symmetric}
use Rattle.sign_table.proofs.Cursor.{held_at, row_total_lem}
use Rattle.sign_table.proofs.Built.{kept_inner, kept_column, kept_row, kept_corner, corner_total, all_count, room_less}
use Rattle.sign_table.proofs.Bounds.{rows_abs}

-- ---- in range, rising, mirrored

held_mirror : (h : Table) (c : ℕ → ℤ) → Mirrored h → (i j : ℕ) → held_at h c i j ≡ true → held_at h c j i ≡ true
held_mirror h c mi i j e = go (stored_at h i j) refl (ℕ_discrete i j)
  where
    go : (t : Bool) → stored_at h i j ≡ t → Dec (i ≡ j) → held_at h c j i ≡ true
    go true s d =
        let (k, b, r, q) = stored_true h i j s in
        let (l, b', r', q', _) = mi.image k b in
        rw (stored_here h j i l b' (r' ∙ q) (q' ∙ r))
    go false s (yes d) = rw (sym d) (rw (← d) at e)
    go false s (no d) = let no_way : false ≡ true = (rw (s, ne_eqb i j d) at e) in cc

module _ (n : ℕ) (h : Table) (c : ℕ → ℤ) where
  pub sign_range : InRange (suc n) (sign_table n h c)
  unfolding sign_places
  sign_range = places_range (kept_of n h c) (sign_of n h c) (suc n)

  pub sign_rising : Rising (sign_table n h c)
  unfolding sign_places
  sign_rising = places_rising (kept_of n h c) (sign_of n h c) (suc n)

  kept_mirror : Mirrored h → (i j : ℕ) → i < suc n → j < suc n → kept_of n h c i j ≡ true → kept_of n h c j i ≡ true
  kept_mirror mi i j a b e = go (ℕ_discrete i n) (ℕ_discrete j n)
    where
      go : Dec (i ≡ n) → Dec (j ≡ n) → kept_of n h c j i ≡ true
      go (yes s) (yes t) = rw (s, t) (kept_corner n h c)
      go (yes s) (no t) = rw s (kept_column n h c j (omega arith) ∙ sym (kept_row n h c j (omega arith)) ∙ (rw s at e))
      go (no s) (yes t) = rw t (kept_row n h c i (omega arith) ∙ sym (kept_column n h c i (omega arith)) ∙ (rw t at e))
      go (no s) (no t) =
          kept_inner n h c j i (omega arith) (omega arith) ∙ held_mirror h c mi i j (sym (kept_inner n h c i j (omega arith) (omega arith)) ∙ e)

  pub sign_mirrored : Rising h → Mirrored h → Mirrored (sign_table n h c)
  unfolding sign_places
  sign_mirrored ri mi =
      places_mirrored (kept_of n h c) (sign_of n h c) (suc n) (kept_mirror mi)
      (sign_symmetric n (absorbed (value_at h) c) (absorbed_symmetric n (value_at h) c (mirrored_symmetric ri mi n)))

-- ---- how many entries, and of which magnitude

module _ {n : ℕ} {h : Table} (c : ℕ → ℤ) (r : InRange n h) where
  stored_le : (i j : ℕ) → cond (stored_at h i j) 1 0 ≤ total h.count (λ l. onlyℕ (h.row l) i (onlyℕ (h.column l) j 1))
  stored_le i j = go (stored_at h i j) refl
    where
      go : (t : Bool) → stored_at h i j ≡ t → cond t 1 0 ≤ total h.count (λ l. onlyℕ (h.row l) i (onlyℕ (h.column l) j 1))
      go true s =
          let (k, b, r', q) = stored_true h i j s in
          let one : onlyℕ (h.row k) i (onlyℕ (h.column k) j 1) ≡ 1 = rw (eq-eqb (h.row k) i r', eq-eqb (h.column k) j q) in
          omega (arith, total_at h.count k (λ l. onlyℕ (h.row l) i (onlyℕ (h.column l) j 1)) b)
      go false s = omega arith

  held_le : (i j : ℕ) → cond (held_at h c i j) 1 0 ≤ total h.count (λ l. onlyℕ (h.row l) i (onlyℕ (h.column l) j 1)) + onlyℕ i j 1
  held_le i j = le_trans (go (stored_at h i j) (eqb i j) (is_zero (c i))) (omega (arith, stored_le i j))
    where
      go : (s t z : Bool) → cond (cond s true (cond t (not z) false)) 1 0 ≤ cond s 1 0 + cond t 1 0
      go true t z = omega arith
      go false true true = omega arith
      go false true false = omega arith
      go false false z = omega arith

  diagonal : (w : ℕ → ℕ) → total n (λ i. total n (λ j. onlyℕ i j (w i))) ≡ total n w
  diagonal w = total_ext n _ w (λ i b. total_only n i (λ j. w i) b)

  inner_count : total n (λ i. total n (λ j. cond (kept_of n h c i j) 1 0)) ≤ h.count + n
  inner_count =
      le_trans (total_mono n _ (λ i. total n (λ j. total h.count (λ l. onlyℕ (h.row l) i (onlyℕ (h.column l) j 1)) + onlyℕ i j 1)) (λ i a.
      total_mono n (λ j. cond (kept_of n h c i j) 1 0) (λ j. total h.count (λ l. onlyℕ (h.row l) i (onlyℕ (h.column l) j 1)) + onlyℕ i j 1) (λ j b.
      rw (kept_inner n h c i j a b) (held_le i j))))
      (omega (
        arith,
        total_ext n _ (λ i. total n (λ j. total h.count (λ l. onlyℕ (h.row l) i (onlyℕ (h.column l) j 1))) + total n (λ j. onlyℕ i j 1)) (λ i a.
            total_add n (λ j. total h.count (λ l. onlyℕ (h.row l) i (onlyℕ (h.column l) j 1))) (λ j. onlyℕ i j 1)),
        total_add n (λ i. total n (λ j. total h.count (λ l. onlyℕ (h.row l) i (onlyℕ (h.column l) j 1)))) (λ i. total n (λ j. onlyℕ i j 1)),
        spread r (λ l. 1),
        total_const h.count 1,
        mul-one h.count,
        diagonal (λ i. 1),
        total_const n 1,
        mul-one n,
      ))

  pub sign_count : length (sign_places n h c) ≤ h.count + 3 * n + 1
  unfolding sign_places
  sign_count =
      omega (
        arith,
        places_number (kept_of n h c) (suc n) (suc n),
        total₂_suc n (λ i j. cond (kept_of n h c i j) 1 0),
        inner_count,
        total_mono n (λ i. cond (kept_of n h c i n) 1 0) (λ i. 1) (λ i a. kept_le (kept_of n h c i n) 1),
        total_mono n (λ j. cond (kept_of n h c n j) 1 0) (λ j. 1) (λ j a. kept_le (kept_of n h c n j) 1),
        kept_le (kept_of n h c n n) 1,
        total_const n 1,
        mul-one n,
      )

  -- ---- the magnitude: at most four times that of (H, c)

  absorbed_le : (i j : ℕ) → nat_abs (absorbed (value_at h) c i j) ≤ total h.count (λ l. onlyℕ (h.row l) i (onlyℕ (h.column l) j (nat_abs (h.value l)))) + onlyℕ i j (2 * nat_abs (c i))
  unfolding absorbed
  absorbed_le i j =
      omega (arith, abs_add (value_at h i j) (only i j (pos 2 *ℤ c i)), value_le h i j, abs_only i j (pos 2 *ℤ c i) ∙ ap (onlyℕ i j) (unsigned_abs-mul (pos 2) (c i)))

  inner_magnitude : total n (λ i. total n (λ j. nat_abs (absorbed (value_at h) c i j))) ≤ magnitude_of h + 2 * total n (λ i. nat_abs (c i))
  inner_magnitude =
      le_trans (total_mono n _ _ (λ i a. total_mono n _ _ (λ j b. absorbed_le i j)))
      (omega (
        arith,
        total_ext n _ (λ i. total n (λ j. total h.count (λ l. onlyℕ (h.row l) i (onlyℕ (h.column l) j (nat_abs (h.value l))))) + total n (λ j. onlyℕ i j (2 * nat_abs (c i)))) (λ i a.
            total_add n (λ j. total h.count (λ l. onlyℕ (h.row l) i (onlyℕ (h.column l) j (nat_abs (h.value l))))) (λ j. onlyℕ i j (2 * nat_abs (c i)))),
        total_add n (λ i. total n (λ j. total h.count (λ l. onlyℕ (h.row l) i (onlyℕ (h.column l) j (nat_abs (h.value l)))))) (λ i. total n (λ j. onlyℕ i j (2 * nat_abs (c i)))),
        spread r (λ l. nat_abs (h.value l)),
        diagonal (λ i. 2 * nat_abs (c i)),
        total_scale n 2 (λ i. nat_abs (c i)),
      ))

  edge_magnitude : (f : ℕ → ℤ) → ((i : ℕ) → i < n → f i ≡ neg_ℤ (sum n (absorbed (value_at h) c i))) → total n (λ i. nat_abs (f i)) ≤ magnitude_of h + 2 * total n (λ i. nat_abs (c i))
  edge_magnitude f is =
      omega (
        arith,
        rows_abs c r,
        total_ext n (λ i. nat_abs (f i)) (λ i. nat_abs (row_total h c i)) (λ i b.
            ap nat_abs (is i b) ∙ abs_neg (sum n (absorbed (value_at h) c i)) ∙ ap nat_abs (row_total_lem c r b)),
      )

  pub sign_magnitude : magnitude_of (sign_table n h c) ≤ 4 * (magnitude_of h + 2 * total n (λ i. nat_abs (c i)))
  unfolding sign_places
  sign_magnitude =
      omega (
        arith,
        places_magnitude (kept_of n h c) (sign_of n h c) (suc n) (suc n),
        total_mono (suc n) _ (λ i. total (suc n) (λ j. nat_abs (sign_of n h c i j))) (λ i a. total_mono (suc n) _ (λ j. nat_abs (sign_of n h c i j)) (λ j b. kept_le (kept_of n h c i j) (nat_abs (sign_of n h c i j)))),
        total₂_suc n (λ i j. nat_abs (sign_of n h c i j)),
        total_ext n (λ i. total n (λ j. nat_abs (sign_of n h c i j))) (λ i. total n (λ j. nat_abs (absorbed (value_at h) c i j))) (λ i a. total_ext n _ _ (λ j b. ap nat_abs (inner n (absorbed (value_at h) c) i j a b))),
        inner_magnitude,
        edge_magnitude (λ i. sign_of n h c i n) (column n (absorbed (value_at h) c)),
        edge_magnitude (λ j. sign_of n h c n j) (row n (absorbed (value_at h) c)),
        ap nat_abs (corner_total n h c r),
        sum_abs n (row_total h c),
        rows_abs c r,
      )

-- ---- an accepted (H, c)

-- what the conversion asks holds
pub hall_convertible : {most capacity limit n : ℕ} {h : Table} {c : ℕ → ℤ} → most < 65536 → limit ≤ 2 ^ 60 → Hall most capacity limit n h c → Convertible n h c
hall_convertible a b ok =
    record { low = omega (arith, ok.wagons); in_range = ok.in_range; rising = ok.rising; small = omega (arith, ok.magnitude) }

-- room for all rows but the last, for the last, and for the corner
pub sign_room : {n : ℕ} {h : Table} {c : ℕ → ℤ} {rows cols : List ℕ} {values : List ℤ} → Convertible n h c → Room 0 (h.count + 3 * n + 1) rows cols values
    → Room 0 (length (places (kept_of n h c) (suc n) n) + length (row_places (kept_of n h c) n 0 n) + 1) rows cols values
sign_room {n} {h} {c} v room = room_less room (omega (arith, all_count n h c, sign_count c v.in_range))
