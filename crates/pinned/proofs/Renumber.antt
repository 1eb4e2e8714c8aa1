-- The free entries of a rising table, those of a free row and a free column, in the order they have and under the places of their wagons, are the
-- submatrix of the free wagons.
-- Assumes nothing.
--     rows_free, cols_free, values_free, many_free
use mathlib.Core.Path.{◌≡◌, refl, sym, ◌∙◌, ap, ap₂}
use mathlib.Core.Logic.{◌⊎◌, inl, inr}
use mathlib.Core.Bool.{Bool, true, false, cond}
use mathlib.Core.List.{List, [], ◌∷◌, ◌++◌, map}
use Prim.Native.Nat.{ℕ, zero, suc, ◌+◌, ◌*◌, ◌<◌, ◌≤◌}
use native.Mathlib.Decide.{ℕ_discrete}
use native.Mathlib.Nat.{le_antisymm}
use native.Mathlib.Omega.{arith}
use borrow.Author.Tests.{lt-ltb, le-ltb}
use lib.ListN.{length, get_or, length-append, length-map, get_or-append}
use lib.Seq.{get_or-append_seam}
use lib.Dec.{ltb}
use lib.IntN.{pos}
use Rattle.std.proofs.lemmas.Bool.{cases_lt}
use Rattle.laws.specs.Lists.{elem, kept, only_if}
use Rattle.laws.proofs.Made.{tabulate_get_d, kept_lengths}
use Rattle.tables.specs.Table.{Table, Before, InRange, Rising, value_at}
use Rattle.tables.specs.Stored.{places, rows_of, cols_of, values_of, stored_table}
use Rattle.tables.specs.Check.{place_key, Placed}
use Rattle.tables.proofs.Checks.{placed}
use Rattle.tables.proofs.Kept.{place_at, places_have, row_listed, col_listed, value_listed, places_range, places_rising}
use Rattle.tables.proofs.Mirrors.{rises, value_here, stored_true, stored_here}
use Rattle.limits.specs.Limits.{most_wagons}
use Rattle.reduced.specs.Submatrix.{kept_in, value_in, reduced_places}
use Rattle.pinned.specs.Pinned.{is_free, free_of, place_of}
use Rattle.pinned.proofs.Free.{Picked, picked, free_map, free_few, free_once, kept_picked}

-- ---- two climbing lists of the same numbers are one

module _ (f g : ℕ → ℕ) (p q : ℕ) (up-f : (k l : ℕ) → k < l → l < p → f k < f l) (up-g : (k l : ℕ) → k < l → l < q → g k < g l)
    (into : (k : ℕ) → k < p → (l : ℕ) × (l < q) × (g l ≡ f k)) where
  steady : (k l : ℕ) → k ≤ l → l < q → g k ≤ g l
  steady k l h b = go (cases_lt k l)
    where
      go : (k < l) ⊎ (l ≤ k) → g k ≤ g l
      go (inl m) = omega (arith, up-g k l m b)
      go (inr m) = let e : k ≡ l = omega arith in omega (arith, ap g e)

  apart : (k : ℕ) (a : k < p) (b : suc k < p) → (into k a).0 < (into (suc k) b).0
  apart k a b = go (cases_lt (into k a).0 (into (suc k) b).0)
    where
      go : ((into k a).0 < (into (suc k) b).0) ⊎ ((into (suc k) b).0 ≤ (into k a).0) → (into k a).0 < (into (suc k) b).0
      go (inl m) = m
      go (inr m) =
          absurd (omega (arith, steady (into (suc k) b).0 (into k a).0 m (into k a).1, (into k a).2, (into (suc k) b).2, up-f k (suc k) (omega arith) b))

  -- number k of f stands no earlier in g
  ahead : (k : ℕ) (h : k < p) → k ≤ (into k h).0
  ahead zero h = omega arith
  ahead (suc k) h = let a : k < p = omega arith in omega (arith, ahead k a, apart k a h)

  not_above : (k : ℕ) → k < p → g k ≤ f k
  not_above k h = omega (arith, steady k (into k h).0 (ahead k h) (into k h).1, (into k h).2)

  fewer : p ≤ q
  fewer = go p refl
    where
      go : (m : ℕ) → p ≡ m → p ≤ q
      go zero e = omega arith
      go (suc m) e = let h : m < p = omega arith in omega (arith, ahead m h, (into m h).1)

-- ---- the place of a free wagon

free_more : (n : ℕ) (states : List ℕ) → free_of (suc n) states ≡ free_of n states ++ only_if (is_free states n) n
unfolding free_of kept
free_more n states = refl

last_in : (map : List ℕ) (n : ℕ) (t : Bool) → t ≡ true → (length map < length (map ++ only_if t n)) × (elem (map ++ only_if t n) (length map) ≡ n)
last_in map n t e = rw e (omega (arith, length-append map (n ∷ [])), get_or-append_seam map n [] 0)

still_in : (map : List ℕ) (n : ℕ) (t : Bool) (k : ℕ) → k < length map → (k < length (map ++ only_if t n)) × (elem (map ++ only_if t n) k ≡ elem map k)
still_in map n t k h = (omega (arith, length-append map (only_if t n)), get_or-append map (only_if t n) 0 k h)

-- wagon i stands behind the free ones that are before it
stands : (n : ℕ) (states : List ℕ) (i : ℕ) → i < n → is_free states i ≡ true
    → (length (free_of i states) < length (free_of n states)) × (elem (free_of n states) (length (free_of i states)) ≡ i)
stands zero states i h f = absurd (omega arith)
stands (suc n) states i h f = rw (free_more n states) (go (ℕ_discrete i n) (λ l. stands n states i l f))
  where
    go : Dec (i ≡ n) → (i < n → (length (free_of i states) < length (free_of n states)) × (elem (free_of n states) (length (free_of i states)) ≡ i))
        → (length (free_of i states) < length (free_of n states ++ only_if (is_free states n) n)) × (elem (free_of n states ++ only_if (is_free states n) n) (length (free_of i states)) ≡ i)
    go (yes e) ih = rw e (last_in (free_of n states) n (is_free states n) (ap (is_free states) (sym e) ∙ f))
    go (no e) ih =
        let (a, b) = ih (omega arith) in
        let (x, y) = still_in (free_of n states) n (is_free states n) (length (free_of i states)) a in
        (x, y ∙ b)

place_is : (states : List ℕ) (i : ℕ) → is_free states i ≡ true → place_of states i ≡ length (free_of i states)
unfolding place_of
place_is states i f = rw f

place_none : (states : List ℕ) (i : ℕ) → is_free states i ≡ false → place_of states i ≡ most_wagons
unfolding place_of
place_none states i f = rw f

-- a place below the limit is that of a free wagon
pub place_test : (states : List ℕ) (i : ℕ) → i < most_wagons → ltb (place_of states i) most_wagons ≡ is_free states i
place_test states i l = go (is_free states i) refl
  where
    go : (t : Bool) → is_free states i ≡ t → ltb (place_of states i) most_wagons ≡ t
    go true e = lt-ltb (place_of states i) most_wagons (omega (arith, place_is states i e, free_few i states))
    go false e = le-ltb (place_of states i) most_wagons (omega (arith, place_none states i e))

module _ (n : ℕ) (states : List ℕ) where
  place_in : (i : ℕ) → i < n → is_free states i ≡ true → (place_of states i < length (free_of n states)) × (elem (free_of n states) (place_of states i) ≡ i)
  place_in i h f = rw (place_is states i f) (stands n states i h f)

  pub place_back : (k : ℕ) → k < length (free_of n states) → place_of states (elem (free_of n states) k) ≡ k
  place_back k h =
      let (a, b) = place_in (elem (free_of n states) k) ((free_map n states).below k h) ((free_map n states).free k h) in
      (free_once n states).same (place_of states (elem (free_of n states) k)) k a h b

  place_up : (i j : ℕ) → i < j → j < n → is_free states i ≡ true → is_free states j ≡ true → place_of states i < place_of states j
  place_up i j l b f g = go (cases_lt (place_of states i) (place_of states j)) (ℕ_discrete (place_of states j) (place_of states i))
    where
      go : (place_of states i < place_of states j) ⊎ (place_of states j ≤ place_of states i) → Dec (place_of states j ≡ place_of states i) → place_of states i < place_of states j
      go (inl m) d = m
      go (inr m) (yes e) =
          absurd (omega (arith, (place_in i (omega arith) f).1, (place_in j b g).1, ap (elem (free_of n states)) e))
      go (inr m) (no e) =
          absurd (omega (
            arith,
            (place_in i (omega arith) f).1,
            (place_in j b g).1,
            (free_map n states).rise (place_of states j) (place_of states i) (omega arith) (place_in i (omega arith) f).0,
          ))

-- ---- the entries

-- entry l is free
abbrev pub among_free : Table → List ℕ → ℕ → Bool
among_free h states l = cond (is_free states (h.row l)) (is_free states (h.column l)) false

module _ {n : ℕ} {h : Table} (small : n ≤ 65536) (r : InRange n h) (ri : Rising h) (states : List ℕ) where
  abbrev free : List ℕ
  free = free_of n states

  abbrev ps : List (ℕ × ℕ)
  ps = places (kept_in h free) (length free) (length free)

  abbrev made : Table
  made = stored_table (value_in h free) ps

  -- the numbers of the free entries, and the table of these
  abbrev ks : List ℕ
  ks = kept (among_free h states) (λ l. l) h.count

  abbrev sub : Table
  sub =
      record {
        count = length ks;
        row = λ k. place_of states (h.row (elem ks k));
        column = λ k. place_of states (h.column (elem ks k));
        value = λ k. h.value (elem ks k);
      }

  them : Picked h.count (among_free h states) ks
  them = picked h.count (among_free h states)

  free_both : (k : ℕ) → k < length ks → (is_free states (h.row (elem ks k)) ≡ true) × (is_free states (h.column (elem ks k)) ≡ true)
  free_both k b = let e = them.free k b in (grind arith, grind arith)

  row_in : (k : ℕ) → k < length ks → (place_of states (h.row (elem ks k)) < length free) × (elem free (place_of states (h.row (elem ks k))) ≡ h.row (elem ks k))
  row_in k b = place_in n states (h.row (elem ks k)) (r.rows_in (elem ks k) (them.below k b)) (free_both k b).0

  col_in : (k : ℕ) → k < length ks → (place_of states (h.column (elem ks k)) < length free) × (elem free (place_of states (h.column (elem ks k))) ≡ h.column (elem ks k))
  col_in k b = place_in n states (h.column (elem ks k)) (r.cols_in (elem ks k) (them.below k b)) (free_both k b).1

  sub_range : InRange (length free) sub
  sub_range = record { rows_in = λ k b. (row_in k b).0; cols_in = λ k b. (col_in k b).0 }

  sub_rising : Rising sub
  sub_rising = record { rise = λ k b. go k (omega arith) b (rises ri (elem ks k) (elem ks (suc k)) (them.rise k (suc k) (omega arith) b) (them.below (suc k) b)) }
    where
      go : (k : ℕ) → k < length ks → suc k < length ks → Before (h.row (elem ks k)) (h.column (elem ks k)) (h.row (elem ks (suc k))) (h.column (elem ks (suc k)))
          → Before (sub.row k) (sub.column k) (sub.row (suc k)) (sub.column (suc k))
      go k a b (inl l) =
          inl (place_up n states (h.row (elem ks k)) (h.row (elem ks (suc k))) l (r.rows_in (elem ks (suc k)) (them.below (suc k) b)) (free_both k a).0 (free_both (suc k) b).0)
      go k a b (inr (e, l)) =
          inr (ap (place_of states) e, place_up n states (h.column (elem ks k)) (h.column (elem ks (suc k))) l (r.cols_in (elem ks (suc k)) (them.below (suc k) b)) (free_both k a).1 (free_both (suc k) b).1)

  abbrev key : Table → ℕ → ℕ
  key t = place_key t.row t.column

  few : length free ≤ 65536
  few = omega (arith, free_few n states)

  mine : Placed sub.row sub.column sub.count
  mine = placed few sub_range sub_rising

  theirs : Placed made.row made.column made.count
  theirs = placed few (places_range (kept_in h free) (value_in h free) (length free)) (places_rising (kept_in h free) (value_in h free) (length free))

  -- each listed place is a free entry's
  listed_in : (k : ℕ) → k < made.count → (l : ℕ) × (l < sub.count) × (key sub l ≡ key made k)
  listed_in k b =
      let (a, d, on) = place_at (kept_in h free) (length free) (length free) k b in
      let i = (get_or ps k (0, 0)).0 in
      let j = (get_or ps k (0, 0)).1 in
      let (l, m, x, y) = stored_true h (elem free i) (elem free j) on in
      let (k', m', e) = them.has l m (rw (x, y, (free_map n states).free i a, (free_map n states).free j d)) in (
        k',
        m',
        ap₂ (λ u v. u * 65536 + v)
            (ap (λ z. place_of states (h.row z)) e ∙ ap (place_of states) x ∙ place_back n states i a ∙ sym (row_listed ps k))
            (ap (λ z. place_of states (h.column z)) e ∙ ap (place_of states) y ∙ place_back n states j d ∙ sym (col_listed ps k)),
      )

  -- and each free entry's place is listed
  entry_in : (k : ℕ) → k < sub.count → (l : ℕ) × (l < made.count) × (key made l ≡ key sub k)
  entry_in k b =
      let (a, x) = row_in k b in
      let (d, y) = col_in k b in
      let (l, m, at) = places_have (kept_in h free) (length free) (length free) (sub.row k) (sub.column k) a d (stored_here h _ _ (elem ks k) (them.below k b) (sym x) (sym y)) in
      (l, m, ap₂ (λ u v. u * 65536 + v) (row_listed ps l ∙ ap (λ p. p.0) at) (col_listed ps l ∙ ap (λ p. p.1) at))

  count_is : length ps ≡ length ks
  count_is =
      le_antisymm (fewer (key made) (key sub) made.count sub.count theirs.climbs mine.climbs listed_in)
      (fewer (key sub) (key made) sub.count made.count mine.climbs theirs.climbs entry_in)

  key_is : (k : ℕ) → k < sub.count → key made k ≡ key sub k
  key_is k b =
      le_antisymm (not_above (key sub) (key made) sub.count made.count mine.climbs theirs.climbs entry_in k b)
      (not_above (key made) (key sub) made.count sub.count theirs.climbs mine.climbs listed_in k (omega (arith, count_is)))

  row_is : (k : ℕ) → k < sub.count → made.row k ≡ sub.row k
  row_is k b = omega (arith, key_is k b, mine.cols_low k b, theirs.cols_low k (omega (arith, count_is)))

  column_is : (k : ℕ) → k < sub.count → made.column k ≡ sub.column k
  column_is k b = omega (arith, key_is k b, row_is k b)

  value_is : (k : ℕ) → k < sub.count → made.value k ≡ sub.value k
  value_is k b =
      let m : k < length ps = omega (arith, count_is) in
      value_listed (value_in h free) ps k m
      ∙ ap₂ (value_at h) (ap (elem free) (sym (row_listed ps k) ∙ row_is k b) ∙ (row_in k b).1) (ap (elem free) (sym (col_listed ps k) ∙ column_is k b) ∙ (col_in k b).1)
      ∙ value_here ri (h.row (elem ks k)) (h.column (elem ks k)) (elem ks k) (them.below k b) refl refl

  -- a list of the places is one of the free entries where they are alike place by place
  listed_free : {A : Type 0} (part : ℕ × ℕ → A) (of : ℕ → A) (d : A) → ((k : ℕ) → k < sub.count → get_or (map part ps) k d ≡ of (elem ks k))
      → map part ps ≡ kept (among_free h states) of h.count
  listed_free part of d is =
      tabulate_get_d (map part ps) (length ks) d (λ k. of (elem ks k)) (length-map ps part ∙ count_is) is ∙ sym (kept_picked (among_free h states) of h.count)

  -- the theorem
  pub rows_free : rows_of (reduced_places h free) ≡ kept (among_free h states) (λ l. place_of states (h.row l)) h.count
  unfolding reduced_places
  rows_free = listed_free (λ p. p.0) (λ l. place_of states (h.row l)) 0 row_is

  pub cols_free : cols_of (reduced_places h free) ≡ kept (among_free h states) (λ l. place_of states (h.column l)) h.count
  unfolding reduced_places
  cols_free = listed_free (λ p. p.1) (λ l. place_of states (h.column l)) 0 column_is

  pub values_free : values_of (value_in h free) (reduced_places h free) ≡ kept (among_free h states) h.value h.count
  unfolding reduced_places
  values_free = listed_free (λ p. value_in h free p.0 p.1) h.value (pos 0) value_is

  pub many_free : length (reduced_places h free) ≡ length (kept (among_free h states) h.value h.count)
  unfolding reduced_places
  many_free = count_is ∙ kept_lengths (among_free h states) (λ l. l) h.value h.count
