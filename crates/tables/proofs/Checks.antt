-- What the checks show: the mirror search, and that nothing is refused exactly where the table is as it should be.
use Prim.Native.Nat.{ℕ, zero, suc, ◌+◌, ◌-◌, ◌*◌, ◌<◌, ◌≤◌}
use mathlib.Core.Path.{◌≡◌, refl, sym, ap, ◌∙◌}
use mathlib.Core.Bool.{Bool, true, false, not, ◌&&◌}
use mathlib.Core.List.{List, [], ◌∷◌}
use mathlib.Core.Logic.{◌⊎◌, inl, inr}
use native.Mathlib.Omega.{arith}
use native.Mathlib.Nat.{eq-or-lt_of_le}
use native.Mathlib.Decide.{ℕ_discrete, dec_lt}
use borrow.Author.Tests.{eq-eqb, ne_eqb, eqb-true, ltb-false, leb-false, lt-ltb, le-ltb, lt-leb, not-false}
use lib.ListN.{length}
use lib.Dec.{eqb, ltb}
use lib.IntN.{ℤ, pos, negsuc}
use Rattle.std.proofs.lemmas.Bool.{and_parts}
use Rattle.laws.specs.Lists.{any_below}
use Rattle.laws.specs.Refusal.{◌if◌, first, short}
use Rattle.laws.proofs.Refusal.{clear, first_head, first_rest, first_skip, first_end}
use Rattle.laws.proofs.Any.{any_head, any_rest, any_not, any_none, below_none, below_only, below_true, below_false, below_at}
use Rattle.tables.specs.Table.{Table, Lent, InRange, Before, Rising, Mirrored}
use Rattle.tables.specs.Check.{bad_size, before, bad_entry, bad_order, place_key, Placed, eq_z, is_mirror, unmirrored, placed_number, hall_number, table_number, short_table, Hall, Accepted}
use Rattle.tables.proofs.Mirrors.{rises}

-- ---- values

pub eq_z_true : (a b : ℤ) → eq_z a b ≡ true → a ≡ b
eq_z_true (pos a) (pos b) e = ap pos (eqb-true a b e)
eq_z_true (pos a) (negsuc b) e = cc
eq_z_true (negsuc a) (pos b) e = cc
eq_z_true (negsuc a) (negsuc b) e = ap negsuc (eqb-true a b e)

pub eq_z_refl : (a : ℤ) → eq_z a a ≡ true
eq_z_refl (pos a) = eq-eqb a a refl
eq_z_refl (negsuc a) = eq-eqb a a refl

-- ---- places that rise, and what halving finds

module _ (p : ℕ → ℕ) (count key : ℕ) (rising : (i j : ℕ) → i < j → j < count → p i < p j) where
  at_most : (i j : ℕ) → i ≤ j → j < count → p i ≤ p j
  at_most i j h l = go (eq-or-lt_of_le h)
    where
      go : (i ≡ j) ⊎ (i < j) → p i ≤ p j
      go (inl e) = rw e (omega arith)
      go (inr k) = omega (arith, rising i j k l)

  pub lower : (mid : ℕ) → mid < count → p mid < key → (j : ℕ) → j < mid + 1 → p j < key
  lower mid l h j k = omega (arith, at_most j mid (omega arith) l)

  pub upper : (mid : ℕ) → key ≤ p mid → (j : ℕ) → mid ≤ j → j < count → key ≤ p j
  upper mid h j k l = omega (arith, at_most mid j k l)

module _ (t : Table) (k j : ℕ) where
  pub mirror_off : (place_key t.row t.column j ≡ place_key t.column t.row k → ⊥) → is_mirror t k j ≡ false
  mirror_off h = go (eqb (t.row j) (t.column k)) (eqb (t.column j) (t.row k)) refl refl
    where
      go : (a b : Bool) → eqb (t.row j) (t.column k) ≡ a → eqb (t.column j) (t.row k) ≡ b → ((a && b) && eq_z (t.value j) (t.value k)) ≡ false
      go true true x y = let row : t.row j ≡ t.column k = eqb-true _ _ x in let column : t.column j ≡ t.row k = eqb-true _ _ y in absurd (h (omega arith))
      go true false x y = refl
      go false b x y = refl

-- what halving says of entry k's mirror: j is where its place is, or would be
module _ (t : Table) (k j key : ℕ) (placed : Placed t.row t.column t.count) (this : key ≡ place_key t.column t.row k)
    (below : (i : ℕ) → i < j → place_key t.row t.column i < key) (above : (i : ℕ) → j ≤ i → i < t.count → key ≤ place_key t.row t.column i) where
  off : (i : ℕ) → i < t.count → (place_key t.row t.column i ≡ key → ⊥) → is_mirror t k i ≡ false
  off i l h = mirror_off t k i (λ e. h (e ∙ sym this))

  elsewhere : j < t.count → (i : ℕ) → i < t.count → (i ≡ j → ⊥) → place_key t.row t.column i ≡ key → ⊥
  elsewhere m i l other e = go (dec_lt i j)
    where
      go : Dec (i < j) → ⊥
      go (yes h) = omega (arith, below i h)
      go (no h) = omega (arith, above j (omega arith) m, placed.climbs j i (omega arith) l)

  pub absent : t.count ≤ j → false ≡ any_below t.count (is_mirror t k)
  absent h = sym (below_none _ t.count (λ i l. off i l (λ e. omega (arith, below i (omega arith)))))

  pub present : j < t.count → is_mirror t k j ≡ any_below t.count (is_mirror t k)
  present m = sym (below_only _ t.count j m (λ i l other. off i l (elsewhere m i l other)))

-- ---- 14: in range and in order

before_true : (i j k l : ℕ) → before i j k l ≡ true → Before i j k l
unfolding before
before_true i j k l e = go (dec_lt i k) (ℕ_discrete i k) (dec_lt j l)
  where
    go : Dec (i < k) → Dec (i ≡ k) → Dec (j < l) → Before i j k l
    go (yes h) d f = inl h
    go (no h) (yes d) (yes f) = inr (d, f)
    go (no h) (yes d) (no f) = cc (rw (le-ltb i k (omega arith), eq-eqb i k d, le-ltb j l (omega arith)) at e)
    go (no h) (no d) f = cc (rw (le-ltb i k (omega arith), ne_eqb i k d) at e)

before_is : (i j k l : ℕ) → Before i j k l → before i j k l ≡ true
unfolding before
before_is i j k l (inl h) = rw (lt-ltb i k h)
before_is i j k l (inr (e, h)) = rw (le-ltb i k (omega arith), eq-eqb i k e) (lt-ltb j l h)

module _ (m : ℕ) (t : Table) where
  -- what is known of entry k
  entry_parts : bad_order m t.row t.column t.count ≡ false → (k : ℕ) → k < t.count
      → (t.row k < m) × (t.column k < m) × ((ltb 0 k && not (before (t.row (k - 1)) (t.column (k - 1)) (t.row k) (t.column k))) ≡ false)
  unfolding bad_order bad_entry
  entry_parts ok k l =
      let here = below_false _ t.count ok k l in
      let later = any_rest _ _ here in
      (leb-false _ _ (any_head _ _ here), leb-false _ _ (any_head _ _ later), any_head _ _ (any_rest _ _ later))

  pub order_range : bad_order m t.row t.column t.count ≡ false → InRange m t
  order_range ok = record { rows_in = λ k l. (entry_parts ok k l).0; cols_in = λ k l. (entry_parts ok k l).1 }

  pub order_rising : bad_order m t.row t.column t.count ≡ false → Rising t
  order_rising ok = record { rise = λ k l. before_true _ _ _ _ (rest k (entry_parts ok (suc k) l).2) }
    where
      rest : (k : ℕ) → (ltb 0 (suc k) && not (before (t.row (suc k - 1)) (t.column (suc k - 1)) (t.row (suc k)) (t.column (suc k)))) ≡ false
          → before (t.row k) (t.column k) (t.row (suc k)) (t.column (suc k)) ≡ true
      rest k e = let back : suc k - 1 ≡ k = omega arith in not-false _ (rw (lt-ltb 0 (suc k) (omega arith), back) at e)

  pub order_passes : InRange m t → Rising t → bad_order m t.row t.column t.count ≡ false
  unfolding bad_order bad_entry
  order_passes r ri = below_none _ t.count (λ k l.
      any_not _ _ (lt-leb _ _ (r.rows_in k l)) (any_not _ _ (lt-leb _ _ (r.cols_in k l)) (any_not _ _ (after k l) any_none)))
    where
      after : (k : ℕ) → k < t.count → (ltb 0 k && not (before (t.row (k - 1)) (t.column (k - 1)) (t.row k) (t.column k))) ≡ false
      after zero l = refl
      after (suc k) l = let back : suc k - 1 ≡ k = omega arith in rw (lt-ltb 0 (suc k) (omega arith), back, before_is _ _ _ _ (ri.rise k l))

-- and places then rise
place_lt : (i j k l : ℕ) → j < 65536 → Before i j k l → i * 65536 + j < k * 65536 + l
place_lt i j k l h (inl p) = omega arith
place_lt i j k l h (inr p) = omega arith

pub placed : {m : ℕ} {t : Table} → m ≤ 65536 → InRange m t → Rising t → Placed t.row t.column t.count
placed {t = t} small r ri =
    record {
      rows_low = λ k l. omega (arith, r.rows_in k l);
      cols_low = λ k l. omega (arith, r.cols_in k l);
      climbs = λ k l h h'. place_lt _ _ _ _ (omega (arith, r.cols_in k (omega arith))) (rises ri k l h h');
    }

-- ---- 15: mirrored

pub mirror_mirrored : (t : Table) → unmirrored t ≡ false → Mirrored t
unfolding unmirrored
mirror_mirrored t ok = record {
  image = λ k h.
      let (l, below, is) = below_true (is_mirror t k) t.count (not-false _ (below_false _ t.count ok k h)) in
      let (place, value) = and_parts _ _ is in
      let (row, column) = and_parts _ _ place in
      (l, below, eqb-true _ _ row, eqb-true _ _ column, eq_z_true _ _ value);
}

pub mirror_passes : (t : Table) → Mirrored t → unmirrored t ≡ false
unfolding unmirrored
mirror_passes t mi = below_none _ t.count (λ k h.
    let (l, below, row, column, value) = mi.image k h in
    let there : is_mirror t k l ≡ true = simp (eq-eqb _ _ row, eq-eqb _ _ column, value, eq_z_refl (t.value k)) in
    ap not (below_at (is_mirror t k) t.count l below there))

-- ---- 13, and the whole

pub size_parts : (least most most_entries size count : ℕ) → bad_size least most most_entries size count ≡ false → (least ≤ size) × (size ≤ most) × (count ≤ most_entries)
unfolding bad_size
size_parts least most most_entries size count e =
    let later = any_rest _ _ e in
    (ltb-false _ _ (any_head _ _ e), ltb-false _ _ (any_head _ _ later), ltb-false _ _ (any_head _ _ (any_rest _ _ later)))

pub size_passes : (least most most_entries size count : ℕ) → least ≤ size → size ≤ most → count ≤ most_entries → bad_size least most most_entries size count ≡ false
unfolding bad_size
size_passes least most most_entries size count a b d =
    any_not _ _ (le-ltb size least a) (any_not _ _ (le-ltb most size b) (any_not _ _ (le-ltb most_entries count d) any_none))

pub order_placed : (m : ℕ) (t : Table) → m ≤ 65536 → bad_order m t.row t.column t.count ≡ false → Placed t.row t.column t.count
order_placed m t small ok = placed small (order_range m t ok) (order_rising m t ok)

-- none of 13 to 16 applies exactly where the table is as it should be
module _ {least most most_entries limit size magnitude : ℕ} {t : Table} where
  clear_parts : first (13 if bad_size least most most_entries size t.count ∷ 14 if bad_order size t.row t.column t.count ∷ 15 if unmirrored t ∷ 16 if ltb limit magnitude ∷ []) ≡ 0
      → (least ≤ size) × (size ≤ most) × (t.count ≤ most_entries) × InRange size t × Rising t × Mirrored t × (magnitude ≤ limit)
  clear_parts ok =
      let ok₁ = first_rest _ _ ok in
      let ok₂ = first_rest _ _ ok₁ in
      let (some, few, entries) = size_parts _ _ _ _ _ (clear _ 12 (first_head _ _ ok)) in
      let order = clear _ 13 (first_head _ _ ok₁) in
      (some, few, entries, order_range size t order, order_rising size t order, mirror_mirrored t (clear _ 14 (first_head _ _ ok₂)), ltb-false _ _ (clear _ 15 (first_head _ _ (first_rest _ _ ok₂))))

  parts_clear : least ≤ size → size ≤ most → t.count ≤ most_entries → InRange size t → Rising t → Mirrored t → magnitude ≤ limit
      → first (13 if bad_size least most most_entries size t.count ∷ 14 if bad_order size t.row t.column t.count ∷ 15 if unmirrored t ∷ 16 if ltb limit magnitude ∷ []) ≡ 0
  parts_clear some few entries r ri mi small =
      first_skip 13 _ _ (size_passes _ _ _ _ _ some few entries) ∙ first_skip 14 _ _ (order_passes size t r ri) ∙ first_skip 15 _ _ (mirror_passes t mi) ∙ first_skip 16 _ _ (le-ltb _ _ small) ∙ first_end

pub placed_size : (least most most_entries size : ℕ) (t : Table) → placed_number least most most_entries size t ≡ 0 → (least ≤ size) × (size ≤ most) × (t.count ≤ most_entries)
unfolding placed_number
placed_size least most most_entries size t ok = size_parts least most most_entries size t.count (clear _ 12 (first_head _ _ ok))

-- no number applies exactly where (H, c) is a hall
pub hall_accepted : {most_wagons most_entries limit n : ℕ} {h : Table} {c : ℕ → ℤ} → hall_number most_wagons most_entries limit n h c ≡ 0 → Hall most_wagons most_entries limit n h c
unfolding hall_number
hall_accepted ok = let (_, w, e, r, ri, mi, m) = clear_parts ok in record { wagons = w; entries = e; in_range = r; rising = ri; mirrored = mi; magnitude = m }

pub hall_passes : {most_wagons most_entries limit n : ℕ} {h : Table} {c : ℕ → ℤ} → Hall most_wagons most_entries limit n h c → hall_number most_wagons most_entries limit n h c ≡ 0
unfolding hall_number
hall_passes ok = parts_clear (omega arith) ok.wagons ok.entries ok.in_range ok.rising ok.mirrored ok.magnitude

-- and a sign table
pub table_accepted : {most_signs most_entries limit m : ℕ} {t : Table} → table_number most_signs most_entries limit m t ≡ 0 → Accepted most_signs most_entries limit m t
unfolding table_number
table_accepted ok = let (o, s, e, r, ri, mi, m) = clear_parts ok in record { some = o; signs = s; entries = e; in_range = r; rising = ri; mirrored = mi; magnitude = m }

pub table_passes : {most_signs most_entries limit m : ℕ} {t : Table} → Accepted most_signs most_entries limit m t → table_number most_signs most_entries limit m t ≡ 0
unfolding table_number
table_passes ok = parts_clear ok.some ok.signs ok.entries ok.in_range ok.rising ok.mirrored ok.magnitude

-- ---- 31: slices that are not short are long enough, where the count stands

pub long_enough : {refused : Bool} {needed lent : ℕ} → short refused needed lent ≡ false → refused ≡ false → needed ≤ lent
unfolding short
long_enough {refused} {needed} {lent} ok e = ltb-false _ _ (rw e at ok)

pub long_passes : {refused : Bool} {needed lent : ℕ} → refused ≡ false → needed ≤ lent → short refused needed lent ≡ false
unfolding short
long_passes e h = rw e (le-ltb _ _ h)

pub table_lent : {most_entries count : ℕ} {rows cols : List ℕ} {values : List ℤ} → short_table most_entries count (length rows) (length cols) (length values) ≡ false
    → count ≤ most_entries → Lent count rows cols values
unfolding short_table
table_lent {most_entries} {count} ok h =
    let few : ltb most_entries count ≡ false = le-ltb most_entries count h in
    let later = any_rest _ _ ok in
    record {
      rows_there = long_enough (any_head _ _ ok) few;
      cols_there = long_enough (any_head _ _ later) few;
      values_there = long_enough (any_head _ _ (any_rest _ _ later)) few;
    }

pub lent_table : {most_entries count : ℕ} {rows cols : List ℕ} {values : List ℤ} → count ≤ most_entries → Lent count rows cols values
    → short_table most_entries count (length rows) (length cols) (length values) ≡ false
unfolding short_table
lent_table {most_entries} {count} h l =
    let few : ltb most_entries count ≡ false = le-ltb most_entries count h in
    any_not _ _ (long_passes few l.rows_there) (any_not _ _ (long_passes few l.cols_there) (any_not _ _ (long_passes few l.values_there) any_none))
