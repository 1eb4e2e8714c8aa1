-- The reduced (H, c) of an accepted one is accepted within the same limits, and its magnitude leaves room for the constant.
-- Assumes nothing.
use mathlib.Core.Path.{◌≡◌, refl, sym, ◌∙◌, ap, ap₂}
use mathlib.Core.Bool.{Bool, true, false, cond}
use mathlib.Core.List.{List}
use Prim.Native.Nat.{ℕ, zero, suc, ◌+◌, ◌*◌, ◌<◌, ◌≤◌}
use native.Mathlib.Nat.{le_trans, le_refl}
use native.Mathlib.Omega.{arith}
use lib.ListN.{length}
use lib.IntN.{ℤ, pos, nat_abs, ◌*ℤ◌, *ℤ-zero, zero-*ℤ}
use Rattle.laws.specs.Sum.{sum, sum₂, total}
use Rattle.laws.specs.Lists.{elem}
use Rattle.std.proofs.lemmas.Int.{unsigned_abs-mul}
use Rattle.laws.proofs.Integer.{abs_add, times_one}
use Rattle.laws.proofs.Sums.{sum_abs}
use Rattle.laws.proofs.Totals.{onlyℕ, total_ext, total_mono, total_zero, total_add, total_swap}
use Rattle.tables.specs.Table.{Table, InRange, Mirrored, Symmetric, magnitude_of, value_at, stored_at}
use Rattle.tables.specs.Cost.{bit, cost_eighths}
use Rattle.tables.specs.Check.{Hall, hall_magnitude}
use Rattle.tables.proofs.Kept.{places_range, places_rising, places_mirrored, places_magnitude}
use Rattle.tables.proofs.Weights.{kept_le, spread, value_le}
use Rattle.tables.proofs.Mirrors.{stored_true, stored_here, hall_symmetric}
use Rattle.reduced.specs.Submatrix.{kept_in, value_in, reduced_places}
use Rattle.reduced.specs.Scatter.{Reducible}
use Rattle.reduced.proofs.Distinct.{range_up}
use Rattle.reduced.proofs.Entries.{reduced_few}
use Rattle.pinned.specs.Pinned.{is_free, free_of, held_byte, held_at, free_table, beside_held, free_cost, held_cost}
use Rattle.pinned.proofs.Free.{free_map, free_few, free_once, total_free}
use Rattle.pinned.proofs.Costs.{free_cost_lem}

-- ---- mirrored

stored_mirror : {h : Table} → Mirrored h → (i j : ℕ) → stored_at h i j ≡ true → stored_at h j i ≡ true
stored_mirror {h} mi i j e =
    let (k, b, r, q) = stored_true h i j e in
    let (l, b', r', q', _) = mi.image k b in
    stored_here h j i l b' (r' ∙ q) (q' ∙ r)

-- ---- what the entries weigh, over the square

square_le : {n : ℕ} {h : Table} → InRange n h → total n (λ i. total n (λ j. nat_abs (value_at h i j))) ≤ magnitude_of h
square_le {n} {h} r =
    le_trans (total_mono n _ (λ i. total n (λ j. total h.count (λ l. onlyℕ (h.row l) i (onlyℕ (h.column l) j (nat_abs (h.value l)))))) (λ i a. total_mono n _ _ (λ j b. value_le h i j)))
    (omega (arith, spread r (λ l. nat_abs (h.value l))))

-- ---- a square of naturals in four parts: free and held rows, free and held columns

module _ (n : ℕ) (states : List ℕ) where
  -- v where wagon i is free, and where it is held
  abbrev fr : ℕ → ℕ → ℕ
  fr i v = cond (is_free states i) v 0

  abbrev hd : ℕ → ℕ → ℕ
  hd i v = cond (is_free states i) 0 v

  parted : (t : Bool) (v : ℕ) → v ≡ cond t v 0 + cond t 0 v
  parted true v = omega arith
  parted false v = omega arith

  total_parted : (g : ℕ → ℕ) → total n g ≡ total n (λ i. fr i (g i)) + total n (λ i. hd i (g i))
  total_parted g = total_ext n g _ (λ i h. parted (is_free states i) (g i)) ∙ total_add n (λ i. fr i (g i)) (λ i. hd i (g i))

  cond_total : (t : Bool) (g : ℕ → ℕ) → cond t (total n g) 0 ≡ total n (λ j. cond t (g j) 0)
  cond_total true g = refl
  cond_total false g = sym (total_zero n)

  dnoc_total : (t : Bool) (g : ℕ → ℕ) → cond t 0 (total n g) ≡ total n (λ j. cond t 0 (g j))
  dnoc_total true g = sym (total_zero n)
  dnoc_total false g = refl

  module _ (a : ℕ → ℕ → ℕ) where
    free_free : ℕ
    free_free = total n (λ i. fr i (total n (λ j. fr j (a i j))))

    free_held : ℕ
    free_held = total n (λ i. fr i (total n (λ j. hd j (a i j))))

    held_free : ℕ
    held_free = total n (λ i. hd i (total n (λ j. fr j (a i j))))

    held_held : ℕ
    held_held = total n (λ i. hd i (total n (λ j. hd j (a i j))))

    fr_add : (t : Bool) (u v : ℕ) → cond t (u + v) 0 ≡ cond t u 0 + cond t v 0
    fr_add true u v = refl
    fr_add false u v = refl

    hd_add : (t : Bool) (u v : ℕ) → cond t 0 (u + v) ≡ cond t 0 u + cond t 0 v
    hd_add true u v = refl
    hd_add false u v = refl

    -- free rows, or held ones
    rows_parted : (part : ℕ → ℕ → ℕ) → ((i u v : ℕ) → part i (u + v) ≡ part i u + part i v)
        → total n (λ i. part i (total n (a i))) ≡ total n (λ i. part i (total n (λ j. fr j (a i j)))) + total n (λ i. part i (total n (λ j. hd j (a i j))))
    rows_parted part add =
        total_ext n _ _ (λ i h. ap (part i) (total_parted (a i)) ∙ add i (total n (λ j. fr j (a i j))) (total n (λ j. hd j (a i j))))
        ∙ total_add n (λ i. part i (total n (λ j. fr j (a i j)))) (λ i. part i (total n (λ j. hd j (a i j))))

    four : total n (λ i. total n (a i)) ≡ free_free + free_held + (held_free + held_held)
    unfolding free_free free_held held_free held_held
    four =
        total_parted (λ i. total n (a i))
        ∙ ap₂ ◌+◌ (rows_parted fr (λ i. fr_add (is_free states i))) (rows_parted hd (λ i. hd_add (is_free states i)))

    swapped : (s t : Bool) (v : ℕ) → cond s (cond t 0 v) 0 ≡ cond t 0 (cond s v 0)
    swapped true t v = refl
    swapped false true v = refl
    swapped false false v = refl

    mirrored : ((i j : ℕ) → i < n → j < n → a i j ≡ a j i) → free_held ≡ held_free
    unfolding free_held held_free
    mirrored sy =
        total_ext n _ (λ i. total n (λ j. fr i (hd j (a i j)))) (λ i h. cond_total (is_free states i) (λ j. hd j (a i j)))
        ∙ total_swap n n (λ i j. fr i (hd j (a i j)))
        ∙ total_ext n _ _ (λ j b.
        total_ext n _ (λ i. hd j (fr i (a j i))) (λ i h. swapped (is_free states i) (is_free states j) (a i j) ∙ ap (λ v. hd j (fr i v)) (sy i j h b))
        ∙ sym (dnoc_total (is_free states j) (λ i. fr i (a j i))))

-- ---- the magnitudes

module _ (n : ℕ) (h : Table) (c : ℕ → ℤ) (states : List ℕ) where
  abbrev size : ℕ → ℕ → ℕ
  size i j = nat_abs (value_at h i j)

  abbrev map : List ℕ
  map = free_of n states

  -- the quadratic costs among the free wagons
  table_le : magnitude_of (free_table n h states) ≤ free_free n states size
  unfolding free_table reduced_places free_free
  table_le =
      le_trans {m = total (length map) (λ k. total (length map) (λ l. size (elem map k) (elem map l)))}
      (rw (places_magnitude (kept_in h map) (value_in h map) (length map) (length map))
      (total_mono (length map) _ (λ k. total (length map) (λ l. size (elem map k) (elem map l))) (λ k a.
      total_mono (length map) _ (λ l. size (elem map k) (elem map l)) (λ l b. kept_le (kept_in h map k l) (size (elem map k) (elem map l))))))
      (omega (
        arith,
        total_ext (length map) (λ k. total (length map) (λ l. size (elem map k) (elem map l))) (λ k. total n (λ j. fr n states j (size (elem map k) j))) (λ k a. total_free n states (λ j. size (elem map k) j)),
        total_free n states (λ i. total n (λ j. fr n states j (size i j))),
      ))

  -- one cost beside the held wagons
  held_le : (i : ℕ) (v : ℤ) → nat_abs (v *ℤ held_at states i) ≤ hd n states i (nat_abs v)
  unfolding held_byte
  held_le i v = go (is_free states i) (elem states i)
    where
      go : (t : Bool) (s : ℕ) → nat_abs (v *ℤ bit (cond t 0 s)) ≤ cond t 0 (nat_abs v)
      go true s = rw (*ℤ-zero v) (omega arith)
      go false zero = rw (*ℤ-zero v) (omega arith)
      go false (suc s) = rw (times_one v) (le_refl _)

  beside_le : (i : ℕ) → nat_abs (beside_held n h c states i) ≤ nat_abs (c i) + total n (λ j. hd n states j (size i j))
  unfolding beside_held
  beside_le i =
      omega (
        arith,
        abs_add (c i) (sum n (λ j. value_at h i j *ℤ held_at states j)),
        sum_abs n (λ j. value_at h i j *ℤ held_at states j),
        total_mono n _ (λ j. hd n states j (size i j)) (λ j b. held_le j (value_at h i j)),
      )

  costs_le : total (length map) (λ k. nat_abs (free_cost n h c states k)) ≤ total n (λ i. fr n states i (nat_abs (c i))) + free_held n states size
  unfolding free_held
  costs_le =
      omega (
        arith,
        total_mono (length map) (λ k. nat_abs (free_cost n h c states k)) (λ k. nat_abs (c (elem map k)) + total n (λ j. hd n states j (size (elem map k) j))) (λ k a. rw (free_cost_lem n h c states k a) (beside_le (elem map k))),
        total_free n states (λ i. nat_abs (c i) + total n (λ j. hd n states j (size i j))),
        total_ext n (λ i. fr n states i (nat_abs (c i) + total n (λ j. hd n states j (size i j)))) (λ i. fr n states i (nat_abs (c i)) + fr n states i (total n (λ j. hd n states j (size i j)))) (λ i b.
            fr_add n states size (is_free states i) (nat_abs (c i)) (total n (λ j. hd n states j (size i j)))),
        total_add n (λ i. fr n states i (nat_abs (c i))) (λ i. fr n states i (total n (λ j. hd n states j (size i j)))),
      )

  both_le : (i j : ℕ) (v : ℤ) → nat_abs (v *ℤ (held_at states i *ℤ held_at states j)) ≤ hd n states i (hd n states j (nat_abs v))
  unfolding held_byte
  both_le i j v = go (is_free states i) (is_free states j) (elem states i) (elem states j)
    where
      go : (t u : Bool) (x y : ℕ) → nat_abs (v *ℤ (bit (cond t 0 x) *ℤ bit (cond u 0 y))) ≤ cond t 0 (cond u 0 (nat_abs v))
      go true u x y = rw (zero-*ℤ (bit (cond u 0 y)), *ℤ-zero v) (omega arith)
      go false true x y = rw (*ℤ-zero (bit x), *ℤ-zero v) (omega arith)
      go false false zero y = rw (zero-*ℤ (bit y), *ℤ-zero v) (omega arith)
      go false false (suc x) zero = rw (*ℤ-zero v) (omega arith)
      go false false (suc x) (suc y) = rw (times_one v) (le_refl _)

  square_abs : nat_abs (sum₂ n (λ i j. value_at h i j *ℤ (held_at states i *ℤ held_at states j))) ≤ held_held n states size
  unfolding sum₂ held_held
  square_abs =
      le_trans (sum_abs n (λ i. sum n (λ j. value_at h i j *ℤ (held_at states i *ℤ held_at states j))))
      (total_mono n _ _ (λ i a.
      le_trans (sum_abs n (λ j. value_at h i j *ℤ (held_at states i *ℤ held_at states j)))
      (rw (dnoc_total n states (is_free states i) (λ j. hd n states j (size i j))) (total_mono n _ _ (λ j b. both_le i j (value_at h i j))))))

  constant_le : nat_abs (held_cost n h c states) ≤ 4 * held_held n states size + 8 * total n (λ i. hd n states i (nat_abs (c i)))
  unfolding held_cost cost_eighths
  constant_le =
      let q = sum₂ n (λ i j. value_at h i j *ℤ (held_at states i *ℤ held_at states j)) in
      let l = sum n (λ i. c i *ℤ held_at states i) in
      omega (
        arith,
        abs_add (pos 4 *ℤ q) (pos 8 *ℤ l),
        unsigned_abs-mul (pos 4) q,
        unsigned_abs-mul (pos 8) l,
        square_abs,
        sum_abs n (λ i. c i *ℤ held_at states i),
        total_mono n _ (λ i. hd n states i (nat_abs (c i))) (λ i b. held_le i (c i)),
      )

  magnitude_left : InRange n h → Symmetric n (value_at h)
      → nat_abs (held_cost n h c states) + 4 * hall_magnitude (length (free_of n states)) (free_table n h states) (free_cost n h c states) ≤ 4 * hall_magnitude n h c
  magnitude_left r sy =
      omega (
        arith,
        table_le,
        costs_le,
        constant_le,
        four n states size,
        mirrored n states size (λ i j a b. ap nat_abs (sy.mirror i j a b)),
        square_le r,
        total_parted n states (λ i. nat_abs (c i)),
      )

  -- the theorem: the reduced magnitude four times, and the constant, are within four times the full one
  pub reduce_magnitude : InRange n h → Symmetric n (value_at h)
      → 4 * hall_magnitude (length (free_of n states)) (free_table n h states) (free_cost n h c states) + nat_abs (held_cost n h c states) ≤ 4 * hall_magnitude n h c
  reduce_magnitude r sy = omega (arith, magnitude_left r sy)

-- ---- the theorem: the reduced (H, c) is accepted within the same limits

module _ {most capacity limit n : ℕ} {h : Table} {c : ℕ → ℤ} (ok : Hall most capacity limit n h c) (states : List ℕ) where
  pub free_reducible : {most_size most_entries : ℕ} → n ≤ most_size → h.count ≤ most_entries → Reducible most_size most_entries h (free_of n states)
  free_reducible small few =
      record {
        entries = few;
        in_range = range_up small ok.in_range;
        rising = ok.rising;
        map_within = record { below = λ k b. omega (arith, (free_map n states).below k b) };
        map_once = free_once n states;
      }

  pub reduce_hall : Hall most capacity limit (length (free_of n states)) (free_table n h states) (free_cost n h c states)
  unfolding free_table reduced_places
  reduce_hall =
      let sy = hall_symmetric ok in
      record {
        wagons = omega (arith, free_few n states, ok.wagons);
        entries = le_trans (reduced_few (free_reducible (le_refl n) (le_refl h.count))) ok.entries;
        in_range = places_range (kept_in h (free_of n states)) (value_in h (free_of n states)) (length (free_of n states));
        rising = places_rising (kept_in h (free_of n states)) (value_in h (free_of n states)) (length (free_of n states));
        mirrored = places_mirrored (kept_in h (free_of n states)) (value_in h (free_of n states)) (length (free_of n states))
            (λ i j a b e. stored_mirror ok.mirrored (elem (free_of n states) i) (elem (free_of n states) j) e)
            (record { mirror = λ i j a b. sy.mirror _ _ ((free_map n states).below i a) ((free_map n states).below j b) });
        magnitude = omega (arith, magnitude_left n h c states ok.in_range sy, ok.magnitude);
      }
