-- The sign table as the code writes it: one turn of each loop.
use mathlib.Core.Path.{◌≡◌, refl, sym, ◌∙◌, ap}
use mathlib.Core.List.{List, [], ◌∷◌, ◌++◌}
use mathlib.Core.Bool.{true, false, not, cond}
use Prim.Native.Nat.{ℕ, suc, ◌+◌, ◌^◌, ◌<◌, ◌≤◌}
use Rattle.std.specs.Prelude.{Some, None}
use native.Mathlib.Decide.{dec_lt}
use native.Mathlib.Omega.{arith}
use native.Mathlib.Numerals.{add-one}
use borrow.Author.Tests.{eq-eqb, ne_eqb, le-ltb}
use lib.ListN.{length, length-append}
use lib.Dec.{eqb}
use lib.IntN.{ℤ, pos, nat_abs, neg_ℤ, ◌+ℤ◌, ◌*ℤ◌}
use mir.Syntax.{w64}
use mir.Val.{SFits, to_z, of_z}
use lib.Signed.{mag}
use mir.Facts.{to_z-of_z}
use Rattle.laws.specs.Sum.{sum, sum₂, only}
use Rattle.std.proofs.lemmas.Int.{unsigned_abs-mul, fits_signed_from_abs}
use Rattle.laws.proofs.Integer.{abs_add, abs_cond}
use Rattle.laws.proofs.Sums.{sum_ext, sum_abs, total_at, turn_fits, turn_is}
use Rattle.tables.specs.Table.{Table, InRange, magnitude_of, value_at}
use Rattle.sign_table.specs.SignTable.{absorbed, edge, row_places, places, is_zero, sign_kept, kept_of, sign_of, sign_places}
use Rattle.sign_table.specs.Walk.{At, is_here, here_value, after_here, next_column, row_total, RowSummed, Wrote, Room, Convertible}
use Rattle.sign_table.proofs.Costs.{inner, column, row, corner}
use Rattle.sign_table.proofs.Cursor.{at_start, held_at, Next, column_or, next_column_below, next_column_lem, here_value_lem, here_next, row_summed, row_total_lem}
use Rattle.tables.proofs.Writing.{wrote_none, wrote_more, wrote_same, wrote_value, wrote_edge, row_more, row_next, row_skip, row_length_lt, row_length_le}
use Rattle.tables.proofs.Kept.{places_more, places_count, places_le}
use Rattle.sign_table.proofs.Bounds.{row_small, rows_held, rows_abs}

-- ---- which places are kept

module _ (n : ℕ) (h : Table) (c : ℕ → ℤ) where
  pub kept_inner : (i j : ℕ) → i < n → j < n → kept_of n h c i j ≡ held_at h c i j
  unfolding sign_kept
  kept_inner i j a b = rw (ne_eqb i n (λ e. omega arith), ne_eqb j n (λ e. omega arith))

  pub kept_column : (i : ℕ) → i < n → kept_of n h c i n ≡ not (is_zero (sum n (absorbed (value_at h) c i)))
  unfolding sign_kept
  kept_column i a = rw (ne_eqb i n (λ e. omega arith), eq-eqb n n refl)

  pub kept_row : (j : ℕ) → j < n → kept_of n h c n j ≡ not (is_zero (sum n (absorbed (value_at h) c j)))
  unfolding sign_kept
  kept_row j b = rw (ne_eqb j n (λ e. omega arith), eq-eqb n n refl)

  pub kept_corner : kept_of n h c n n ≡ true
  unfolding sign_kept
  kept_corner = rw (eq-eqb n n refl)

  pub corner_total : InRange n h → sign_of n h c n n ≡ sum n (row_total h c)
  unfolding sum₂
  corner_total r = corner n (absorbed (value_at h) c) ∙ sum_ext n _ _ (λ i b. row_total_lem c r b)

-- ---- one value

here_small : (h : Table) (i j k : ℕ) → nat_abs (cond (is_here h.count h.row h.column i j k) (h.value k) (pos 0)) ≤ magnitude_of h
here_small h i j k = go (dec_lt k h.count)
  where
    go : Dec (k < h.count) → nat_abs (cond (is_here h.count h.row h.column i j k) (h.value k) (pos 0)) ≤ magnitude_of h
    go (yes b) = abs_cond (is_here h.count h.row h.column i j k) _ _ _ (total_at h.count k (λ l. nat_abs (h.value l)) b) (omega arith)
    go (no b) = rw (le-ltb k h.count (omega arith)) (omega arith)

pub here_fits : (h : Table) (c : ℕ → ℤ) (i j k : ℕ) → magnitude_of h ≤ 2 ^ 60 → nat_abs (c i) ≤ 2 ^ 59 → SFits w64 (here_value h c i j k)
here_fits h c i j k small low =
    fits_signed_from_abs w64 _ (omega (
      arith,
      abs_add (cond (is_here h.count h.row h.column i j k) (h.value k) (pos 0)) (only i j (pos 2 *ℤ c i)),
      here_small h i j k,
      abs_cond (eqb i j) (pos 2 *ℤ c i) (pos 0) (2 ^ 60) (omega (arith, unsigned_abs-mul (pos 2) (c i))) (omega arith),
    ))

-- ---- a row up to column j

pub record RowInv (n : ℕ) (h : Table) (c : ℕ → ℤ) (i len k at j : ℕ) (rows cols : List ℕ) (values : List ℤ) (rows' cols' : List ℕ) (values' : List ℤ) : Type 0 where
  pub up : j ≤ n
  pub cursor : At h k i j
  pub wrote : Wrote (sign_of n h c) (row_places (kept_of n h c) i 0 j) len rows cols values rows' cols' values'
  pub many : at ≡ len + length (row_places (kept_of n h c) i 0 j)

module _ {n : ℕ} {h : Table} {c : ℕ → ℤ} (v : Convertible n h c) {i : ℕ} (below : i < n) where
  gap : {k j e : ℕ} → Next n h c k i j e → (x : ℕ) → j ≤ x → x < e → kept_of n h c i x ≡ false
  gap s x a b = kept_inner n h c i x below (omega (arith, s.high)) ∙ s.gap x a b

  here : {k j e : ℕ} → Next n h c k i j e → e < n → kept_of n h c i e ≡ true
  here {e = e} s b = kept_inner n h c i e below b ∙ s.kept b

  step : {k j : ℕ} → At h k i j → j ≤ n → Next n h c k i j (column_or n (next_column h.count h.row h.column c i j k))
  step at up = next_column_lem c v.rising v.in_range at below up

  pub row_begin : {len k : ℕ} {rows cols : List ℕ} {values : List ℤ} → At h k i 0 → RowInv n h c i len k len 0 rows cols values rows cols values
  unfolding row_places
  row_begin at = record { up = omega arith; cursor = at; wrote = wrote_none; many = omega arith }

  module _ {len k at f j : ℕ} {rows cols : List ℕ} {values : List ℤ} {rows' cols' : List ℕ} {values' : List ℤ}
      (inv : RowInv n h c i len k at f rows cols values rows' cols' values') (some : Some j ≡ next_column h.count h.row h.column c i f k) where
    found : Next n h c k i f j
    found = rw (sym some) at (step inv.cursor inv.up)

    pub row_found : (f ≤ j) × (j < n)
    row_found = (found.low, rw (sym some) at (next_column_below k f c v.in_range below))

    so_far : row_places (kept_of n h c) i 0 j ≡ row_places (kept_of n h c) i 0 f
    so_far = row_skip (kept_of n h c) i f j found.low (gap found)

    pub row_turn : {k' : ℕ} {z : ℤ} {rows'' cols'' : List ℕ} {values'' : List ℤ} → z ≡ here_value h c i j k → k' ≡ after_here h.count h.row h.column i j k
        → Wrote (λ _ _. z) ((i, j) ∷ []) at rows' cols' values' rows'' cols'' values''
        → RowInv n h c i len k' (at + 1) (j + 1) rows cols values rows'' cols'' values''
    row_turn {k'} zis kis w =
        let one = row_next (kept_of n h c) i j (j + 1) (here found row_found.1) (omega arith) (λ x a b. absurd (omega arith)) ∙ ap (λ ps. ps ++ ((i, j) ∷ [])) so_far in
        let value = zis ∙ here_value_lem v.rising found.at c ∙ sym (inner n (absorbed (value_at h) c) i j below row_found.1) in
        record {
          up = omega (arith, row_found.1);
          cursor = rw (kis, add-one j) (here_next v.rising found.at);
          wrote = wrote_same (sym one) (wrote_more inv.wrote inv.many (wrote_value w value));
          many = omega (arith, inv.many, ap length one, length-append (row_places (kept_of n h c) i 0 f) ((i, j) ∷ []));
        }

    pub row_room : at + 1 ≤ len + length (row_places (kept_of n h c) i 0 n)
    row_room = omega (arith, inv.many, ap length so_far, row_length_lt (kept_of n h c) i j n row_found.1 (here found row_found.1))

  pub row_done : {len k at f : ℕ} {rows cols : List ℕ} {values : List ℤ} {rows' cols' : List ℕ} {values' : List ℤ}
      → RowInv n h c i len k at f rows cols values rows' cols' values' → None ≡ next_column h.count h.row h.column c i f k
      → Wrote (sign_of n h c) (row_places (kept_of n h c) i 0 n) len rows cols values rows' cols' values' × (at ≡ len + length (row_places (kept_of n h c) i 0 n))
  row_done {k = k} {f = f} inv none =
      let s : Next n h c k i f n = rw (sym none) at (step inv.cursor inv.up) in
      let so_far = row_skip (kept_of n h c) i f n inv.up (gap s) in
      (wrote_same (sym so_far) inv.wrote, omega (arith, inv.many, ap length so_far))

  -- the row's last column
  module _ {sum' : ℤ} {next : ℕ} (s : RowSummed h.count h.row h.value (c i) i next sum') where
    pub sum_is : sum' ≡ sum n (absorbed (value_at h) c i)
    sum_is = (row_summed v.rising s).1 ∙ sym (row_total_lem c v.in_range below)

    pub row_more_is : row_places (kept_of n h c) i 0 (suc n) ≡ row_places (kept_of n h c) i 0 n ++ edge (not (is_zero sum')) i n
    row_more_is = row_more (kept_of n h c) i n (suc n) (omega arith) ∙ rw (kept_column n h c i below, sum_is)

    pub row_value : neg_ℤ sum' ≡ sign_of n h c i n
    row_value = rw sum_is (sym (column n (absorbed (value_at h) c) i below))

    pub sum_small : nat_abs sum' ≤ 2 ^ 60
    sum_small = rw (row_summed v.rising s).1 (row_small v i below)

    -- the entry (n, i) of the last row
    pub last_more_is : row_places (kept_of n h c) n 0 (i + 1) ≡ row_places (kept_of n h c) n 0 i ++ edge (not (is_zero sum')) n i
    last_more_is = row_more (kept_of n h c) n i (i + 1) refl ∙ rw (kept_row n h c i below, sum_is)

    pub last_value : neg_ℤ sum' ≡ sign_of n h c n i
    last_value = rw sum_is (sym (row n (absorbed (value_at h) c) i below))

    pub next_row : At h next (suc i) 0
    next_row = (row_summed v.rising s).0

    pub sum_back : to_z w64 (of_z w64 sum') ≡ sum'
    sum_back = to_z-of_z (fits_signed_from_abs w64 sum' (omega (arith, sum_small)))

    pub sum_total : sum' ≡ row_total h c i
    sum_total = (row_summed v.rising s).1

    -- the row whole
    module _ (len : ℕ) {at : ℕ} (many : at ≡ len + length (row_places (kept_of n h c) i 0 n)) where
      pub whole_wrote : {rows cols : List ℕ} {values : List ℤ} {rows' cols' : List ℕ} {values' : List ℤ} {rows'' cols'' : List ℕ} {values'' : List ℤ} → Wrote (sign_of n h c) (row_places (kept_of n h c) i 0 n) len rows cols values rows' cols' values'
          → Wrote (λ _ _. neg_ℤ sum') (edge (not (is_zero sum')) i n) at rows' cols' values' rows'' cols'' values''
          → Wrote (sign_of n h c) (row_places (kept_of n h c) i 0 (suc n)) len rows cols values rows'' cols'' values''
      whole_wrote w e = wrote_same (sym row_more_is) (wrote_more w many (wrote_edge (sign_of n h c) (not (is_zero sum')) i n e row_value))

      pub whole_many : at + length (edge (not (is_zero sum')) i n) ≡ len + length (row_places (kept_of n h c) i 0 (suc n))
      whole_many = omega (arith, many, ap length row_more_is, length-append (row_places (kept_of n h c) i 0 n) (edge (not (is_zero sum')) i n))

-- ---- all rows but the last

pub record RowsInv (n : ℕ) (h : Table) (c : ℕ → ℤ) (k at i : ℕ) (rows cols : List ℕ) (values : List ℤ) (rows' cols' : List ℕ) (values' : List ℤ) : Type 0 where
  pub up : i ≤ n
  pub cursor : At h k i 0
  pub wrote : Wrote (sign_of n h c) (places (kept_of n h c) (suc n) i) 0 rows cols values rows' cols' values'
  pub many : at ≡ length (places (kept_of n h c) (suc n) i)

module _ (n : ℕ) (h : Table) (c : ℕ → ℤ) where
  pub rows_begin : {rows cols : List ℕ} {values : List ℤ} → RowsInv n h c 0 0 0 rows cols values rows cols values
  unfolding places
  rows_begin = record { up = omega arith; cursor = at_start h; wrote = wrote_none; many = refl }

  module _ {k at i : ℕ} {rows cols : List ℕ} {values : List ℤ} {rows' cols' : List ℕ} {values' : List ℤ} (inv : RowsInv n h c k at i rows cols values rows' cols' values') where
    pub rows_turn : {k' at' : ℕ} {rows'' cols'' : List ℕ} {values'' : List ℤ} → i < n
        → Wrote (sign_of n h c) (row_places (kept_of n h c) i 0 (suc n)) at rows' cols' values' rows'' cols'' values''
        → at' ≡ at + length (row_places (kept_of n h c) i 0 (suc n)) → At h k' (suc i) 0
        → RowsInv n h c k' at' (i + 1) rows cols values rows'' cols'' values''
    rows_turn more w e cur =
        record {
          up = omega arith;
          cursor = rw (add-one i) cur;
          wrote = wrote_same (sym (places_more (kept_of n h c) (suc n) i)) (wrote_more inv.wrote (omega (arith, inv.many)) w);
          many = omega (arith, inv.many, places_count (kept_of n h c) (suc n) i);
        }

    pub rows_room : i < n → at + length (row_places (kept_of n h c) i 0 (suc n)) ≤ length (places (kept_of n h c) (suc n) n)
    rows_room more = omega (arith, inv.many, places_count (kept_of n h c) (suc n) i, places_le (kept_of n h c) (suc n) (i + 1) n (omega arith))

-- ---- the last row

pub record LastInv (n : ℕ) (h : Table) (c : ℕ → ℤ) (len k at i total : ℕ) (rows cols : List ℕ) (values : List ℤ) (rows' cols' : List ℕ) (values' : List ℤ) : Type 0 where
  pub up : i ≤ n
  pub cursor : At h k i 0
  pub wrote : Wrote (sign_of n h c) (row_places (kept_of n h c) n 0 i) len rows cols values rows' cols' values'
  pub many : at ≡ len + length (row_places (kept_of n h c) n 0 i)
  pub sums : to_z w64 total ≡ sum i (row_total h c)

pub last_begin : (n : ℕ) (h : Table) (c : ℕ → ℤ) {len : ℕ} {rows cols : List ℕ} {values : List ℤ} → LastInv n h c len 0 len 0 0 rows cols values rows cols values
unfolding row_places sum
last_begin n h c = record { up = omega arith; cursor = at_start h; wrote = wrote_none; many = omega arith; sums = refl }

module _ {n : ℕ} {h : Table} {c : ℕ → ℤ} (v : Convertible n h c) {len k at i total : ℕ} {rows cols : List ℕ} {values : List ℤ} {rows' cols' : List ℕ} {values' : List ℤ}
    (inv : LastInv n h c len k at i total rows cols values rows' cols' values') where
  ok : (below : i < n) {sum' : ℤ} {next : ℕ} → RowSummed h.count h.row h.value (c i) i next sum' → mag sum' < 2 ^ 63
  ok below {sum'} s = (fits_signed_from_abs w64 sum' (omega (arith, sum_small v below s))).sfits

  module _ (below : i < n) {sum' : ℤ} {next : ℕ} (s : RowSummed h.count h.row h.value (c i) i next sum') where
    pub last_fits : SFits w64 (to_z w64 total +ℤ to_z w64 (of_z w64 sum'))
    last_fits = turn_fits (rows_held v) i total sum' below inv.sums (ok below s) (sum_total v below s)

    pub last_turn : {at' total' : ℕ} {rows'' cols'' : List ℕ} {values'' : List ℤ}
        → Wrote (λ _ _. neg_ℤ sum') (edge (not (is_zero sum')) n i) at rows' cols' values' rows'' cols'' values'' → at' ≡ at + length (edge (not (is_zero sum')) n i)
        → total' ≡ of_z w64 (to_z w64 total +ℤ to_z w64 (of_z w64 sum'))
        → LastInv n h c len next at' (i + 1) total' rows cols values rows'' cols'' values''
    last_turn w e t =
        record {
          up = omega arith;
          cursor = rw (add-one i) (next_row v below s);
          wrote = wrote_same (sym (last_more_is v below s)) (wrote_more inv.wrote inv.many (wrote_edge (sign_of n h c) (not (is_zero sum')) n i w (last_value v below s)));
          many = omega (arith, inv.many, ap length (last_more_is v below s), length-append (row_places (kept_of n h c) n 0 i) (edge (not (is_zero sum')) n i));
          sums = rw t (turn_is (rows_held v) i total sum' below inv.sums (ok below s) (sum_total v below s));
        }

    pub last_room : at + length (edge (not (is_zero sum')) n i) ≤ len + length (row_places (kept_of n h c) n 0 n)
    last_room =
        omega (
          arith,
          inv.many,
          ap length (last_more_is v below s),
          length-append (row_places (kept_of n h c) n 0 i) (edge (not (is_zero sum')) n i),
          row_length_le (kept_of n h c) n (i + 1) n (omega arith),
        )

-- ---- the corner, and the whole

module _ (n : ℕ) (h : Table) (c : ℕ → ℤ) where
  pub all_places : sign_places n h c ≡ places (kept_of n h c) (suc n) n ++ (row_places (kept_of n h c) n 0 n ++ ((n, n) ∷ []))
  unfolding sign_places places
  all_places = ap (λ l. places (kept_of n h c) (suc n) n ++ l) (row_more (kept_of n h c) n n (suc n) (omega arith) ∙ rw (kept_corner n h c))

  pub all_count : length (sign_places n h c) ≡ length (places (kept_of n h c) (suc n) n) + length (row_places (kept_of n h c) n 0 n) + 1
  all_count =
      rw all_places (omega (
        arith,
        length-append (places (kept_of n h c) (suc n) n) (row_places (kept_of n h c) n 0 n ++ ((n, n) ∷ [])),
        length-append (row_places (kept_of n h c) n 0 n) ((n, n) ∷ []),
      ))

  pub all_wrote : {len at : ℕ} {z : ℤ} {rows cols : List ℕ} {values : List ℤ} {rows' cols' : List ℕ} {values' : List ℤ} {rows'' cols'' : List ℕ} {values'' : List ℤ} {rows''' cols''' : List ℕ} {values''' : List ℤ}
      → InRange n h → Wrote (sign_of n h c) (places (kept_of n h c) (suc n) n) 0 rows cols values rows' cols' values' → len ≡ length (places (kept_of n h c) (suc n) n)
      → Wrote (sign_of n h c) (row_places (kept_of n h c) n 0 n) len rows' cols' values' rows'' cols'' values'' → at ≡ len + length (row_places (kept_of n h c) n 0 n)
      → Wrote (λ _ _. z) ((n, n) ∷ []) at rows'' cols'' values'' rows''' cols''' values''' → z ≡ sum n (row_total h c)
      → Wrote (sign_of n h c) (sign_places n h c) 0 rows cols values rows''' cols''' values'''
  all_wrote r w e w' e' w'' z =
      wrote_same (sym all_places) (wrote_more w (omega arith) (wrote_more w' e' (wrote_value w'' (z ∙ sym (corner_total n h c r)))))

-- room for fewer
pub room_less : {at m k : ℕ} {rows cols : List ℕ} {values : List ℤ} → Room at m rows cols values → k ≤ m → Room at k rows cols values
room_less r h = record { rows_room = omega (arith, r.rows_room); cols_room = omega (arith, r.cols_room); values_room = omega (arith, r.values_room) }

-- and further on, in slices of the same lengths
pub room_on : {at at' m k : ℕ} {rows cols : List ℕ} {values : List ℤ} {rows' cols' : List ℕ} {values' : List ℤ} → Room at m rows cols values → at' + k ≤ at + m
    → length rows' ≡ length rows → length cols' ≡ length cols → length values' ≡ length values → Room at' k rows' cols' values'
room_on r h a b d = record { rows_room = omega (arith, r.rows_room); cols_room = omega (arith, r.cols_room); values_room = omega (arith, r.values_room) }

pub total_back : {n : ℕ} {h : Table} {c : ℕ → ℤ} {t : ℤ} → Convertible n h c → t ≡ sum n (row_total h c) → to_z w64 (of_z w64 t) ≡ sum n (row_total h c)
total_back {n} {h} {c} v e =
    rw e (to_z-of_z (fits_signed_from_abs w64 (sum n (row_total h c)) (omega (arith, sum_abs n (row_total h c), rows_abs c v.in_range, v.small))))
