-- What the code of the reduction does turn by turn, and that its sums over entries are those over the square.
-- Assumes nothing.
use mathlib.Core.Path.{◌≡◌, refl, sym, ◌∙◌, ap, ap₂, subst}
use mathlib.Core.Bool.{Bool, true, false, cond}
use mathlib.Core.List.{List}
use Prim.Native.Nat.{ℕ, zero, suc, ◌+◌, ◌*◌, ◌^◌, ◌<◌, ◌≤◌}
use native.Mathlib.Decide.{ℕ_discrete}
use native.Mathlib.Nat.{le_refl}
use native.Mathlib.Omega.{arith}
use mir.Syntax.{w64}
use mir.Val.{SFits, to_z, of_z}
use mir.Facts.{to_z-of_z}
use lib.ListN.{length, set, take, replicate, length-replicate, length-map, length-set}
use lib.Seq.{take_at, get_or-set_same, get_or-set_other}
use lib.Dec.{eqb}
use lib.IntN.{ℤ, pos, nat_abs, ◌+ℤ◌, ◌*ℤ◌, *ℤ-zero, +ℤ_idr}
use Rattle.laws.specs.Sum.{sum, sum₂, only}
use Rattle.laws.specs.Lists.{elem, elem_z, over, fill, tabulate, put_if, next_if}
use Rattle.std.proofs.lemmas.Int.{unsigned_abs-mul, fits_signed_from_abs}
use Rattle.laws.proofs.Integer.{parts, differences, ring, abs_add, times_one, mul_left_comm}
use Rattle.laws.proofs.Sums.{Held, sum_more, sum_ext, sum_add, sum_scale, sum₂_ext, sum_bounded, total_at, only_yes, only_no}
use Rattle.laws.proofs.Made.{kept_next, kept_count, length_tabulate, get_d_tabulate, tabulate_ext, tabulate_next, tabulate_get_d, tabulate_replicate}
use Rattle.laws.proofs.MapFirst.{get_d_map_first}
use Rattle.laws.proofs.Parts.{take_sets}
use Rattle.tables.specs.Table.{Table, table_of, InRange, Symmetric, magnitude_of, value_at}
use Rattle.tables.specs.Stored.{rows_of, cols_of, values_of, Wrote, Room}
use Rattle.tables.specs.Cost.{bit, choice_at, cost_eighths}
use Rattle.tables.specs.Check.{Hall, hall_magnitude}
use Rattle.tables.proofs.Places.{over_places}
use Rattle.tables.proofs.Flips.{one_row, only_right}
use Rattle.tables.proofs.Choices.{cost_ext, four_fits, eight_fits}
use Rattle.tables.proofs.Choices as Choices
use Rattle.tables.proofs.Mirrors.{hall_symmetric}
use Rattle.limits.specs.Limits.{most_wagons, most_entries, most_magnitude}
use Rattle.reduced.specs.Submatrix.{value_in, reduced_places}
use Rattle.pinned.specs.Pinned.{is_free, free_of, held_byte, held_at, free_table, beside_held, free_costs, held_cost, Shrinks, beside_term, held_term, BesideFits}
use Rattle.pinned.proofs.Free.{free_few, free_map}
use Rattle.pinned.proofs.Halls.{reduce_magnitude}

-- ---- the free wagons

pub free_put : (states : List ℕ) (i at : ℕ) (xs ys : List ℕ) {ys' : List ℕ} → at ≡ length (free_of i states) → i < length xs → ys ≡ over (free_of i states) xs
    → ys' ≡ put_if (is_free states i) at i ys → ys' ≡ over (free_of (i + 1) states) xs
unfolding free_of
free_put states i at xs ys a h e f = f ∙ kept_next (is_free states) (λ j. j) i at xs ys 0 a (omega (arith, free_few i states)) e

pub free_count_lem : (states : List ℕ) (i at : ℕ) {at' : ℕ} → at ≡ length (free_of i states) → at' ≡ next_if (is_free states i) at → at' ≡ length (free_of (i + 1) states)
unfolding free_of
free_count_lem states i at a e = e ∙ kept_count (is_free states) (λ j. j) i at a

-- fewer are free than wagons are passed
pub free_before : (states : List ℕ) {i at m : ℕ} → at ≡ length (free_of i states) → i < m → at < m
free_before states {i} a l = omega (arith, free_few i states)

-- the free wagons, cut from the front of the slice
pub free_cut : (n f : ℕ) (states xs ys : List ℕ) → ys ≡ over (free_of n states) xs → f ≡ length (free_of n states) → take f ys ≡ free_of n states
free_cut n f states xs ys e l = rw e (take_at (free_of n states) _ f (sym l))

-- ---- the choice of the held wagons

pub held_at_lem : (n : ℕ) (states : List ℕ) {held : List ℕ} → held ≡ fill (held_byte states) n (replicate most_wagons 0) → n ≤ most_wagons → (i : ℕ) → i < n → choice_at held i ≡ held_at states i
held_at_lem n states e small i h =
    rw e (ap bit (get_d_map_first (λ j _. held_byte states j) n (replicate most_wagons 0) i 0 h (rw (length-replicate {A = ℕ} most_wagons 0) (omega arith))))

-- ---- the linear costs: one walk over the entries adds each to the sum of its row

abbrev beside_sum : Table → (ℕ → ℤ) → (ℕ → ℤ) → ℕ → ℤ
beside_sum h c y i = c i +ℤ sum h.count (beside_term h y i)

module _ (h : Table) (b : List ℕ) where
  abbrev term : ℕ → ℤ
  term l = h.value l *ℤ choice_at b (h.column l)

  term_le : (i l : ℕ) → nat_abs (beside_term h (choice_at b) i l) ≤ 1 * nat_abs (h.value l)
  term_le i l = go (eqb i (h.row l)) (elem b (h.column l)) (h.value l)
    where
      go : (t : Bool) (x : ℕ) (v : ℤ) → nat_abs (cond t (v *ℤ bit x) (pos 0)) ≤ 1 * nat_abs v
      go true zero v = rw (*ℤ-zero v) (omega arith)
      go true (suc x) v = rw (times_one v) (omega arith)
      go false x v = omega arith

  beside_abs : (i k : ℕ) → k ≤ h.count → nat_abs (sum k (beside_term h (choice_at b) i)) ≤ magnitude_of h
  beside_abs i k few = omega (arith, sum_bounded 1 h.count k (beside_term h (choice_at b) i) (λ l. nat_abs (h.value l)) (term_le i) few)

  cost_fits : (n i : ℕ) (c : ℕ → ℤ) → i < n → hall_magnitude n h c ≤ most_magnitude → SFits w64 (beside_sum h c (choice_at b) i)
  cost_fits n i c l small =
      fits_signed_from_abs w64 _ (omega (arith, abs_add (c i) (sum h.count (beside_term h (choice_at b) i)), beside_abs i h.count (le_refl h.count), total_at n i (λ j. nat_abs (c j)) l))

  -- before the first entry
  pub sums_none : (m : ℕ) → replicate m (pos 0) ≡ tabulate (λ i. sum 0 (beside_term h (choice_at b) i)) m
  unfolding sum
  sums_none m = tabulate_replicate (pos 0) m

  -- entry l
  module _ (l : ℕ) {m : ℕ} {sums : List ℤ} (is : sums ≡ tabulate (λ i. sum l (beside_term h (choice_at b) i)) m) (low : h.row l < m) where
    row_sum : elem_z sums (h.row l) ≡ sum l (beside_term h (choice_at b) (h.row l))
    row_sum = rw is (get_d_tabulate (λ i. sum l (beside_term h (choice_at b) i)) m (h.row l) (pos 0) low)

    row_more : elem_z sums (h.row l) +ℤ term l ≡ sum (l + 1) (beside_term h (choice_at b) (h.row l))
    row_more =
        ap₂ ◌+ℤ◌ row_sum (sym (only_yes (h.row l) (h.row l) (term l) refl)) ∙ sym (sum_more l (beside_term h (choice_at b) (h.row l)))

    pub row_fits : l < h.count → magnitude_of h ≤ most_magnitude → SFits w64 (elem_z sums (h.row l) +ℤ term l)
    row_fits few small = fits_signed_from_abs w64 _ (rw row_more (omega (arith, beside_abs (h.row l) (l + 1) (omega arith))))

    pub sums_next : set sums (h.row l) (elem_z sums (h.row l) +ℤ term l) ≡ tabulate (λ i. sum (l + 1) (beside_term h (choice_at b) i)) m
    sums_next =
        tabulate_get_d (set sums (h.row l) (elem_z sums (h.row l) +ℤ term l)) m (pos 0) (λ i. sum (l + 1) (beside_term h (choice_at b) i)) long (λ j k. go j k (ℕ_discrete j (h.row l)))
      where
        size : length sums ≡ m
        size = rw is (length_tabulate (λ i. sum l (beside_term h (choice_at b) i)) m)

        long : length (set sums (h.row l) (elem_z sums (h.row l) +ℤ term l)) ≡ m
        long = length-set sums (h.row l) (elem_z sums (h.row l) +ℤ term l) ∙ size

        go : (j : ℕ) → j < m → Dec (j ≡ h.row l) → elem_z (set sums (h.row l) (elem_z sums (h.row l) +ℤ term l)) j ≡ sum (l + 1) (beside_term h (choice_at b) j)
        go j k (yes e) = rw e (get_or-set_same sums (h.row l) (elem_z sums (h.row l) +ℤ term l) (pos 0) (omega (arith, size)) ∙ row_more)
        go j k (no e) =
            get_or-set_other sums (h.row l) j (elem_z sums (h.row l) +ℤ term l) (pos 0) e
            ∙ ap (λ (xs : List ℤ). elem_z xs j) is ∙ get_d_tabulate (λ i. sum l (beside_term h (choice_at b) i)) m j (pos 0) k
            ∙ sym (sum_more l (beside_term h (choice_at b) j) ∙ ap (λ z. sum l (beside_term h (choice_at b) j) +ℤ z) (only_no j (h.row l) (term l) e) ∙ +ℤ_idr _)

-- over the square
beside_dense : {n : ℕ} {h : Table} → InRange n h → (y : ℕ → ℤ) (i : ℕ) → i < n → sum h.count (beside_term h y i) ≡ sum n (λ j. value_at h i j *ℤ y j)
beside_dense {n} {h} r y i l =
    sum_ext h.count _ _ (λ k b. sym (only_right i (h.row k) (h.value k) (y (h.column k))))
    ∙ over_places r (λ a j. only i a (y j))
    ∙ sum₂_ext n _ _ (λ a j b d. only_right i a (value_at h a j) (y j))
    ∙ one_row n i (λ a j. value_at h a j *ℤ y j) l

-- the code reads the table by columns: the table is its own mirror image
abbrev turned : Table → Table
turned h = record { count = h.count; row = h.column; column = h.row; value = h.value }

turned_value : (h : Table) (i j : ℕ) → value_at (turned h) i j ≡ value_at h j i
unfolding value_at
turned_value h i j = sum_ext h.count _ _ (λ k b. go (eqb (h.column k) i) (eqb (h.row k) j) (h.value k))
  where
    go : (s t : Bool) (v : ℤ) → cond s (cond t v (pos 0)) (pos 0) ≡ cond t (cond s v (pos 0)) (pos 0)
    go true true v = refl
    go true false v = refl
    go false true v = refl
    go false false v = refl

pub turned_range : {n : ℕ} {h : Table} → InRange n h → InRange n (turned h)
turned_range r = record { rows_in = r.cols_in; cols_in = r.rows_in }

turned_dense : {n : ℕ} {h : Table} → InRange n h → Symmetric n (value_at h) → (y : ℕ → ℤ) (i : ℕ) → i < n
    → sum h.count (beside_term (turned h) y i) ≡ sum n (λ j. value_at h i j *ℤ y j)
turned_dense {n} {h} r sy y i l =
    beside_dense (turned_range r) y i l ∙ sum_ext n _ _ (λ j b. ap (λ v. v *ℤ y j) (turned_value h i j ∙ sy.mirror j i b l))

-- ---- the constant: one walk over the wagons

cost_rows : (n : ℕ) (H : ℕ → ℕ → ℤ) (c y : ℕ → ℤ) → sum n (held_term c (λ i. sum n (λ j. H i j *ℤ y j)) y) ≡ cost_eighths n H c y
unfolding cost_eighths sum₂
cost_rows n H c y =
    sum_ext n _ _ (λ i a. apart (sum n (λ j. H i j *ℤ y j)) (c i) (y i))
    ∙ sum_add n (λ i. pos 4 *ℤ (y i *ℤ sum n (λ j. H i j *ℤ y j))) (λ i. pos 8 *ℤ (c i *ℤ y i))
    ∙ ap₂ ◌+ℤ◌
    (sum_scale n (pos 4) (λ i. y i *ℤ sum n (λ j. H i j *ℤ y j)) ∙ ap (λ z. pos 4 *ℤ z) (sum_ext n _ _ (λ i a. sym (row i))))
    (sum_scale n (pos 8) (λ i. c i *ℤ y i))
  where
    apart : (s a v : ℤ) → (pos 4 *ℤ s +ℤ pos 8 *ℤ a) *ℤ v ≡ pos 4 *ℤ (v *ℤ s) +ℤ pos 8 *ℤ (a *ℤ v)
    apart s a v = rw (parts s, parts a, parts v) (simp differences (omega ring))

    row : (i : ℕ) → sum n (λ j. H i j *ℤ (y i *ℤ y j)) ≡ y i *ℤ sum n (λ j. H i j *ℤ y j)
    row i = sum_ext n _ _ (λ j b. mul_left_comm (H i j) (y i) (y j)) ∙ sum_scale n (y i) (λ j. H i j *ℤ y j)

-- an i64 holds what a wagon's share is computed from
pub record OwnFits (s a : ℤ) : Type 0 where
  pub sums_fit : SFits w64 (pos 4 *ℤ s)
  pub cost_fits : SFits w64 (pos 8 *ℤ a)
  pub both_fit : SFits w64 (pos 4 *ℤ s +ℤ pos 8 *ℤ a)

pub own_fits : (s a : ℤ) → nat_abs s + 2 * nat_abs a ≤ most_magnitude → OwnFits s a
own_fits s a h =
    let small : nat_abs s + 2 * nat_abs a ≤ 2 ^ 58 = omega (arith, h) in
    record { sums_fit = four_fits s a small; cost_fits = eight_fits s a small; both_fit = Choices.cost_fits s a small }

-- a sum of k summands of at most m each
sum_small : (n m : ℕ) (f : ℕ → ℤ) → ((i : ℕ) → i < n → nat_abs (f i) ≤ m) → (k : ℕ) → k ≤ n → nat_abs (sum k f) ≤ k * m
unfolding sum
sum_small n m f h zero l = omega arith
sum_small n m f h (suc k) l = omega (arith, sum_small n m f h k (omega arith), abs_add (sum k f) (f k), h k (omega arith))

module _ (n : ℕ) (c s : ℕ → ℤ) (b : List ℕ) (few : n ≤ most_wagons) (small : (i : ℕ) → i < n → nat_abs (s i) + 2 * nat_abs (c i) ≤ most_magnitude) where
  own_le : (i : ℕ) → i < n → nat_abs (held_term c s (choice_at b) i) ≤ 4 * most_magnitude
  own_le i l = go (elem b i)
    where
      go : (x : ℕ) → nat_abs ((pos 4 *ℤ s i +ℤ pos 8 *ℤ c i) *ℤ bit x) ≤ 4 * most_magnitude
      go zero = rw (*ℤ-zero (pos 4 *ℤ s i +ℤ pos 8 *ℤ c i)) (omega arith)
      go (suc x) =
          rw (times_one (pos 4 *ℤ s i +ℤ pos 8 *ℤ c i))
          (omega (arith, abs_add (pos 4 *ℤ s i) (pos 8 *ℤ c i), unsigned_abs-mul (pos 4) (s i), unsigned_abs-mul (pos 8) (c i), small i l))

  pub constant_sums : Held n (held_term c s (choice_at b))
  unfolding sum
  constant_sums =
      record { next = λ k l. fits_signed_from_abs w64 _ (omega (arith, sum_small n (4 * most_magnitude) (held_term c s (choice_at b)) own_le (suc k) l)) }

-- ---- the whole

module _ {n : ℕ} {h : Table} {c : ℕ → ℤ} (ok : Hall most_wagons most_entries most_magnitude n h c) (states : List ℕ) {held : List ℕ} (is : held ≡ fill (held_byte states) n (replicate most_wagons 0))
    {sums : List ℤ} (summed : sums ≡ tabulate (λ i. sum h.count (beside_term (turned h) (choice_at held) i)) most_wagons) where
  sum_at : (i : ℕ) → i < n → elem_z sums i ≡ sum h.count (beside_term (turned h) (choice_at held) i)
  sum_at i l = rw summed (get_d_tabulate (λ j. sum h.count (beside_term (turned h) (choice_at held) j)) most_wagons i (pos 0) (omega (arith, ok.wagons)))

  row_at : (i : ℕ) → i < n → elem_z sums i ≡ sum n (λ j. value_at h i j *ℤ choice_at held j)
  row_at i l = sum_at i l ∙ turned_dense ok.in_range (hall_symmetric ok) (choice_at held) i l

  beside_is : (i : ℕ) → i < n → c i +ℤ elem_z sums i ≡ beside_held n h c states i
  unfolding beside_held
  beside_is i l =
      ap (λ z. c i +ℤ z) (row_at i l ∙ sum_ext n _ _ (λ j b. ap (λ z. value_at h i j *ℤ z) (held_at_lem n states is ok.wagons j b)))

  -- what is asked of each wagon's cost
  pub beside_held_fits : (cs : List ℤ) → c ≡ elem_z cs → n ≤ length cs → (i : ℕ) → i < n → BesideFits cs sums i
  beside_held_fits cs at there i l =
      record {
        cost_there = omega arith;
        low = omega (arith, ok.wagons);
        fits = subst (λ (f : ℕ → ℤ). SFits w64 (f i +ℤ elem_z sums i)) at (rw (sum_at i l) (cost_fits (turned h) held n i c l ok.magnitude));
      }

  -- and of its share of the constant
  pub held_small : (i : ℕ) → i < n → nat_abs (elem_z sums i) + 2 * nat_abs (c i) ≤ most_magnitude
  held_small i l =
      rw (sum_at i l) (omega (arith, beside_abs (turned h) held i h.count (le_refl h.count), total_at n i (λ j. nat_abs (c j)) l, ok.magnitude))

  -- what the code made
  pub shrinks : {rows cols : List ℕ} {values costs : List ℤ} {rows' cols' : List ℕ} {values' costs' : List ℤ} {count : ℕ} {constant : ℤ} {free : List ℕ} → free ≡ free_of n states
      → constant ≡ sum n (held_term c (elem_z sums) (choice_at held))
      → costs' ≡ over (tabulate (λ k. c (elem free k) +ℤ elem_z sums (elem free k)) (length free)) costs
      → Wrote (value_in h free) (reduced_places h free) 0 rows cols values rows' cols' values'
      → count ≡ length (reduced_places h free)
      → Shrinks n h c states rows cols values costs rows' cols' values' costs' count constant
  unfolding held_cost free_costs
  shrinks {costs = costs} f k w e m =
      record {
        entries = rw f at e;
        many = rw f at m;
        costs_are =
            (rw f at w) ∙ ap (λ l. over l costs) (tabulate_ext _ _ (length (free_of n states)) (λ j b. beside_is (elem (free_of n states) j) ((free_map n states).below j b)));
        constant_is =
            k ∙ sum_ext n _ _ (λ i l. ap (λ z. (pos 4 *ℤ z +ℤ pos 8 *ℤ c i) *ℤ choice_at held i) (row_at i l))
            ∙ cost_rows n (value_at h) c (choice_at held) ∙ cost_ext n (value_at h) c (held_at_lem n states is ok.wagons);
      }

-- ---- what the parts of the code ask

module _ (n : ℕ) (states : List ℕ) {free : List ℕ} (is : free ≡ free_of n states) where
  pub free_low : (k : ℕ) → k < length free → elem free k < n
  free_low = rw is (free_map n states).below

  pub free_short : length free ≤ n
  free_short = rw is (free_few n states)

pub cost_next : (f : ℕ → ℤ) (k : ℕ) (xs ys : List ℤ) {x : ℤ} → k < length xs → ys ≡ over (tabulate f k) xs → x ≡ f k → set ys k x ≡ over (tabulate f (k + 1)) xs
cost_next f k xs ys h e g = rw g (tabulate_next f k xs ys (pos 0) h e)

-- ---- the constant is held by an i64

pub constant_held : {most capacity limit n : ℕ} {h : Table} {c : ℕ → ℤ} → Hall most capacity limit n h c → limit ≤ most_magnitude → (states : List ℕ) {constant : ℤ} → constant ≡ held_cost n h c states → to_z w64 (of_z w64 constant) ≡ constant
constant_held {n = n} {h = h} {c = c} ok small states {constant} e =
    to_z-of_z (fits_signed_from_abs w64 constant (rw e (omega (arith, reduce_magnitude n h c states ok.in_range (hall_symmetric ok), ok.magnitude))))

-- ---- the fronts of the slices are the reduced (H, c)

module _ {n : ℕ} {h : Table} {c : ℕ → ℤ} {states : List ℕ} {rows cols : List ℕ} {values costs : List ℤ} {rows' cols' : List ℕ} {values' costs' : List ℤ} {count : ℕ} {constant : ℤ}
    (made : Shrinks n h c states rows cols values costs rows' cols' values' costs' count constant) where
  abbrev ps : List (ℕ × ℕ)
  ps = reduced_places h (free_of n states)

  pub costs_front : take (length (free_of n states)) costs' ≡ free_costs n h c states
  unfolding free_costs
  costs_front = rw made.costs_are (take_at (free_costs n h c states) _ (length (free_of n states)) (length_tabulate _ (length (free_of n states))))

  module _ (room : Room 0 count rows cols values) where
    pub rows_front : take count rows' ≡ rows_of ps
    rows_front = rw made.entries.rows_are (take_sets (rows_of ps) rows count (made.many ∙ sym (length-map ps (λ p. p.0))) (omega (arith, room.rows_room)))

    pub cols_front : take count cols' ≡ cols_of ps
    cols_front = rw made.entries.cols_are (take_sets (cols_of ps) cols count (made.many ∙ sym (length-map ps (λ p. p.1))) (omega (arith, room.cols_room)))

    pub values_front : take count values' ≡ values_of (value_in h (free_of n states)) ps
    values_front =
        rw made.entries.values_are
        (take_sets (values_of (value_in h (free_of n states)) ps) values count (made.many ∙ sym (length-map ps (λ p. value_in h (free_of n states) p.0 p.1))) (omega (arith, room.values_room)))

    -- the theorem: the table in the fronts is the one of the free wagons
    pub table_front : table_of count (take count rows') (take count cols') (take count values') ≡ free_table n h states
    unfolding free_table
    table_front = rw (rows_front, cols_front, values_front, made.many)
