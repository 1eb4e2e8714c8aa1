-- What flipping sign i does to the changes: change j grows by 8·Q_ij·x_i·x_j, and change i turns to its negative. Assumes nothing.
use Prim.Native.Nat.{ℕ, zero, suc, ◌+◌, ◌*◌, ◌≤◌, ◌<◌}
use native.Mathlib.Decide.{ℕ_discrete}
use native.Mathlib.Numerals.{add-one}
use native.Mathlib.Omega.{arith}
use borrow.Author.Tests.{eq-eqb, ne_eqb}
use lib.Dec.{eqb}
use mathlib.Core.Logic.{⊎_elim}
use mathlib.Core.Bool.{Bool, true, false, cond}
use mathlib.Core.List.{List}
use mathlib.Core.Path.{◌≡◌, refl, sym, ap, ap₂, ◌∙◌}
use lib.IntN.{ℤ, pos, negsuc, neg_ℤ, nat_abs, ◌+ℤ◌, ◌-ℤ◌, ◌*ℤ◌, *ℤ-zero, +ℤ_idr, +ℤ_assoc}
use lib.ListN.{length, get_or, set, length-set}
use lib.Seq.{get_or-set_same, get_or-set_other}
use mir.Syntax.{w64}
use mir.Val.{SFits}
use Rattle.laws.specs.Sum.{sum, only}
use Rattle.std.proofs.lemmas.Int.{unsigned_abs-mul, fits_signed_from_abs}
use Rattle.laws.proofs.Integer.{abs_cond, parts, differences, ring, square_one, times_one, abs_add}
use Rattle.laws.proofs.Sums.{sum_more, sum_ext, sum_zero, sum_add, sum_scale, sum_only, sum_past, sum_bounded}
use Rattle.limits.specs.Limits.{most_sign_magnitude}
use Rattle.tables.specs.Table.{Table, Symmetric, SignVector, Rising, magnitude_of, value_at, sign_at}
use Rattle.tables.specs.Flip.{flipped, flip_change, flip_term}
use Rattle.tables.proofs.Flips.{flip_entries}
use Rattle.tables.proofs.Shares.{abs_sign, sign_vector}
use Rattle.local_search.specs.Level.{flip_sign}
use Rattle.local_search.proofs.LevelLaws.{flipped_length}
use Rattle.sign_search.specs.Search.{change_in, Mirrors}
use Rattle.sign_search.specs.Clauses.{SumsFit, Sound, Changes, RowStart, Turned, turn_weight, turn_term, Climbs}
use Rattle.sign_search.proofs.Lawful.{signs_flip}
use Rattle.sign_search.proofs.ChangeLaws.{abs_flip}

-- ---- one entry

pub eight_times : (v a b : ℤ) → pos 8 *ℤ (v *ℤ a *ℤ b) ≡ pos 8 *ℤ (a *ℤ b) *ℤ v
eight_times v a b = rw (parts v, parts a, parts b) (simp differences (omega ring))

-- ---- over a square

module _ (m : ℕ) (q : ℕ → ℕ → ℤ) (x : ℕ → ℤ) (i : ℕ) (h : i < m) (sv : SignVector x) where
  row_turned : (j : ℕ) → sum m (λ b. q j b *ℤ flipped x i b) ≡ sum m (λ b. q j b *ℤ x b) +ℤ negsuc 1 *ℤ (q j i *ℤ x i)
  unfolding flipped
  row_turned j =
      sum_ext m _ (λ b. q j b *ℤ x b +ℤ only i b (negsuc 1 *ℤ (q j b *ℤ x b))) (λ b l. go (eqb i b) (q j b) (x b))
      ∙ sum_add m (λ b. q j b *ℤ x b) (λ b. only i b (negsuc 1 *ℤ (q j b *ℤ x b)))
      ∙ ap (λ (z : ℤ). sum m (λ b. q j b *ℤ x b) +ℤ z) (sum_only m i (λ b. negsuc 1 *ℤ (q j b *ℤ x b)) h)
    where
      go : (t : Bool) (a y : ℤ) → a *ℤ cond t (neg_ℤ y) y ≡ a *ℤ y +ℤ cond t (negsuc 1 *ℤ (a *ℤ y)) (pos 0)
      go true a y = rw (parts a, parts y) (simp differences (omega ring))
      go false a y = sym (+ℤ_idr (a *ℤ y))

  stays : (j : ℕ) → (i ≡ j → ⊥) → flipped x i j ≡ x j
  unfolding flipped
  stays j d = rw (ne_eqb i j d)

  turns : flipped x i i ≡ neg_ℤ (x i)
  unfolding flipped
  turns = rw (eq-eqb i i refl)

  other_turned : Symmetric m q → (j : ℕ) → j < m → (i ≡ j → ⊥) → flip_change m q (flipped x i) j ≡ flip_change m q x j +ℤ pos 8 *ℤ (x i *ℤ x j) *ℤ q i j
  unfolding flip_change
  other_turned sy j k d =
      ap₂ (λ (y s : ℤ). pos 4 *ℤ q j j -ℤ pos 4 *ℤ (y *ℤ s)) (stays j d) (row_turned j)
      ∙ ap (λ (a : ℤ). pos 4 *ℤ q j j -ℤ pos 4 *ℤ (x j *ℤ (sum m (λ b. q j b *ℤ x b) +ℤ negsuc 1 *ℤ (a *ℤ x i)))) (sy.mirror j i k h)
      ∙ collect (q j j) (x j) (sum m (λ b. q j b *ℤ x b)) (q i j) (x i)
    where
      spread : (y s a z : ℤ) → y *ℤ (s +ℤ negsuc 1 *ℤ (a *ℤ z)) ≡ y *ℤ s +ℤ negsuc 1 *ℤ (z *ℤ y *ℤ a)
      spread y s a z = rw (parts y, parts s, parts a, parts z) (simp differences (omega ring))

      last : (p u w : ℤ) → pos 4 *ℤ p -ℤ pos 4 *ℤ (u +ℤ negsuc 1 *ℤ w) ≡ pos 4 *ℤ p -ℤ pos 4 *ℤ u +ℤ pos 8 *ℤ w
      last p u w = rw (parts p, parts u, parts w) (simp differences (omega ring))

      eight : (w a : ℤ) → pos 8 *ℤ (w *ℤ a) ≡ pos 8 *ℤ w *ℤ a
      eight w a = rw (parts w, parts a) (simp differences (omega ring))

      collect : (p y s a z : ℤ) → pos 4 *ℤ p -ℤ pos 4 *ℤ (y *ℤ (s +ℤ negsuc 1 *ℤ (a *ℤ z))) ≡ pos 4 *ℤ p -ℤ pos 4 *ℤ (y *ℤ s) +ℤ pos 8 *ℤ (z *ℤ y) *ℤ a
      collect p y s a z =
          ap (λ (u : ℤ). pos 4 *ℤ p -ℤ pos 4 *ℤ u) (spread y s a z) ∙ last p (y *ℤ s) (z *ℤ y *ℤ a)
          ∙ ap (λ (u : ℤ). pos 4 *ℤ p -ℤ pos 4 *ℤ (y *ℤ s) +ℤ u) (eight (z *ℤ y) a)

  own_turned : flip_change m q (flipped x i) i ≡ neg_ℤ (flip_change m q x i)
  unfolding flip_change
  own_turned =
      ap₂ (λ (y s : ℤ). pos 4 *ℤ q i i -ℤ pos 4 *ℤ (y *ℤ s)) turns (row_turned i)
      ∙ ap (λ (u : ℤ). pos 4 *ℤ q i i -ℤ pos 4 *ℤ u) (spread (x i) (sum m (λ b. q i b *ℤ x b)) (q i i))
      ∙ rw (square_one (x i) (sv.unit i), times_one (q i i)) (last (q i i) (x i *ℤ sum m (λ b. q i b *ℤ x b)))
    where
      spread : (y s a : ℤ) → neg_ℤ y *ℤ (s +ℤ negsuc 1 *ℤ (a *ℤ y)) ≡ neg_ℤ (y *ℤ s) +ℤ pos 2 *ℤ (a *ℤ (y *ℤ y))
      spread y s a = rw (parts y, parts s, parts a) (simp differences (omega ring))

      last : (p u : ℤ) → pos 4 *ℤ p -ℤ pos 4 *ℤ (neg_ℤ u +ℤ pos 2 *ℤ p) ≡ neg_ℤ (pos 4 *ℤ p -ℤ pos 4 *ℤ u)
      last p u = rw (parts p, parts u) (simp differences (omega ring))

-- ---- of a table

flip_ext : (m : ℕ) (q : ℕ → ℕ → ℤ) (x y : ℕ → ℤ) (j : ℕ) → ((b : ℕ) → x b ≡ y b) → flip_change m q x j ≡ flip_change m q y j
unfolding flip_change
flip_ext m q x y j e =
    ap₂ (λ (a s : ℤ). pos 4 *ℤ q j j -ℤ pos 4 *ℤ (a *ℤ s)) (e j) (sum_ext m _ _ (λ b l. ap (λ (z : ℤ). q j b *ℤ z) (e b)))

module _ (t : Table) (x : List ℕ) (ok : Mirrors (length x) t) (i : ℕ) (h : i < length x) where
  pub change_other : (j : ℕ) → j < length x → (i ≡ j → ⊥) → change_in t (flip_sign i x) j ≡ change_in t x j +ℤ turn_weight x i j *ℤ value_at t i j
  unfolding change_in
  change_other j k d =
      ap (λ (n : ℕ). flip_change n (value_at t) (sign_at (flip_sign i x)) j) (flipped_length i x)
      ∙ flip_ext (length x) (value_at t) _ (flipped (sign_at x) i) j (λ b. signs_flip x i b h)
      ∙ other_turned (length x) (value_at t) (sign_at x) i h (sign_vector x) ok.symmetric j k d

  pub change_own : change_in t (flip_sign i x) i ≡ neg_ℤ (change_in t x i)
  unfolding change_in
  change_own =
      ap (λ (n : ℕ). flip_change n (value_at t) (sign_at (flip_sign i x)) i) (flipped_length i x)
      ∙ flip_ext (length x) (value_at t) _ (flipped (sign_at x) i) i (λ b. signs_flip x i b h)
      ∙ own_turned (length x) (value_at t) (sign_at x) i h (sign_vector x)

-- ---- summed over the entries

module _ (t : Table) (x : List ℕ) (i : ℕ) where
  -- an entry of another row adds nothing; one of row i adds its value times the weight to its column's
  term_elsewhere : (j k : ℕ) → (t.row k ≡ i → ⊥) → turn_term t x i j k ≡ pos 0
  term_elsewhere j k d = rw (ne_eqb (t.row k) i d) (*ℤ-zero (turn_weight x i j))

  term_column : (k : ℕ) → t.row k ≡ i → turn_term t x i (t.column k) k ≡ turn_weight x i (t.column k) *ℤ t.value k
  term_column k e = rw (eq-eqb (t.row k) i e, eq-eqb (t.column k) (t.column k) refl)

  term_other : (j k : ℕ) → t.row k ≡ i → (t.column k ≡ j → ⊥) → turn_term t x i j k ≡ pos 0
  term_other j k e d = rw (eq-eqb (t.row k) i e, ne_eqb (t.column k) j d) (*ℤ-zero (turn_weight x i j))

  abs_weight : (j : ℕ) → nat_abs (turn_weight x i j) ≡ 8
  abs_weight j = simp (unsigned_abs-mul, abs_sign)

  term_small : (j k : ℕ) → nat_abs (turn_term t x i j k) ≤ 8 * nat_abs (t.value k)
  term_small j k =
      let o : ℤ = only (t.row k) i (only (t.column k) j (t.value k)) in
      let small : nat_abs o ≤ nat_abs (t.value k) = abs_cond (eqb (t.row k) i) _ _ _ (abs_cond (eqb (t.column k) j) _ _ _ (omega arith) (omega arith)) (omega arith) in
      rw (unsigned_abs-mul (turn_weight x i j) o, abs_weight j) (omega arith)

  pub turned_none : (from : ℕ) (before : List ℤ) → RowStart t.count t.row i from → Turned t x i from before before
  turned_none from before s = record {
    many = refl;
    sums = λ j h.
        sym (ap (λ (z : ℤ). get_or before j (pos 0) +ℤ z) (sum_ext from (turn_term t x i j) (λ k. pos 0) (λ k l. term_elsewhere j k (λ e. omega (arith, s.behind k l))) ∙ sum_zero from)
        ∙ +ℤ_idr (get_or before j (pos 0)));
  }

  pub turned_all : (k to : ℕ) (before after : List ℤ) → to ≤ k → k ≤ t.count → RowStart t.count t.row (suc i) to → Turned t x i k before after → Turned t x i t.count before after
  turned_all k to before after p q s u = record {
    many = u.many;
    sums = λ j h.
        u.sums j h ∙ ap (λ (z : ℤ). get_or before j (pos 0) +ℤ z)
        (sym (sum_past (turn_term t x i j) k t.count q (λ l a b. term_elsewhere j l (λ e. omega (arith, s.ahead l (omega arith) b)))));
  }

  module _ (k : ℕ) (before after : List ℤ) (u : Turned t x i k before after) (e : t.row k ≡ i) (within : t.column k < length x) where
    abbrev column : ℕ
    column = t.column k

    more : get_or after column (pos 0) +ℤ turn_weight x i column *ℤ t.value k ≡ get_or before column (pos 0) +ℤ sum (suc k) (turn_term t x i column)
    unfolding sum
    more =
        ap₂ ◌+ℤ◌ (u.sums column within) (sym (term_column k e)) ∙ +ℤ_assoc (get_or before column (pos 0)) (sum k (turn_term t x i column)) (turn_term t x i column k)

    pub turned_more : (z : ℤ) → column < length after → z ≡ get_or after column (pos 0) +ℤ turn_weight x i column *ℤ t.value k → Turned t x i (k + 1) before (set after column z)
    turned_more z room is = record { many = simp length-set u.many; sums = λ j h. go j h (ℕ_discrete j column) }
      where
        go : (j : ℕ) → j < length x → Dec (j ≡ column) → get_or (set after column z) j (pos 0) ≡ get_or before j (pos 0) +ℤ sum (k + 1) (turn_term t x i j)
        go j h (yes d) = rw (d, add-one k) (get_or-set_same after column z (pos 0) room ∙ is ∙ more)
        go j h (no d) =
            get_or-set_other after column j z (pos 0) d ∙ u.sums j h
            ∙ ap (λ (s : ℤ). get_or before j (pos 0) +ℤ s) (sym (sum_more k (turn_term t x i j) ∙ ap (λ (s : ℤ). sum k (turn_term t x i j) +ℤ s) (term_other j k e (λ q. d (sym q))) ∙ +ℤ_idr (sum k (turn_term t x i j))))

    pub turned_fits : k < t.count → magnitude_of t ≤ most_sign_magnitude → nat_abs (get_or before column (pos 0)) ≤ 4 * most_sign_magnitude → SFits w64 (get_or after column (pos 0) +ℤ turn_weight x i column *ℤ t.value k)
    turned_fits h small held =
        rw more
        (fits_signed_from_abs w64 _ (omega (
          arith,
          abs_add (get_or before column (pos 0)) (sum (suc k) (turn_term t x i column)),
          sum_bounded 8 t.count (suc k) (turn_term t x i column) (λ l. nat_abs (t.value l)) (term_small column) h,
        )))

-- a change that i64 holds
pub change_abs : {t : Table} (x : List ℕ) → SumsFit (length x) t → (i : ℕ) → i < length x → nat_abs (change_in t x i) ≤ 4 * most_sign_magnitude
unfolding change_in
change_abs {t} x ok i h =
    rw (← (flip_entries ok.in_range (sign_at x) i h (sign_vector x)))
    (omega (
      arith,
      sum_bounded 4 t.count t.count (flip_term t (sign_at x) i) (λ l. nat_abs (t.value l)) (λ l. abs_flip i (t.row l) (t.column l) (get_or x i 0) (get_or x (t.column l) 0) (t.value l)) (omega arith),
      ok.small,
    ))

weighed_all : (t : Table) (x : List ℕ) (i j : ℕ) → sum t.count (turn_term t x i j) ≡ turn_weight x i j *ℤ value_at t i j
unfolding value_at
weighed_all t x i j = sum_scale t.count (turn_weight x i j) (λ k. only (t.row k) i (only (t.column k) j (t.value k)))

-- and the flip itself
pub changes_flipped : (t : Table) (x : List ℕ) (i : ℕ) (before after : List ℤ) (z : ℤ) → Mirrors (length x) t → i < length x → Changes t x before → Turned t x i t.count before after
    → z ≡ neg_ℤ (get_or before i (pos 0)) → Changes t (flip_sign i x) (set after i z)
changes_flipped t x i before after z ok h p u is = record {
  many = rw (length-set after i z, flipped_length i x, u.many) p.many;
  are = λ j l. go j (rw (flipped_length i x) at l) (ℕ_discrete j i);
}
  where
    go : (j : ℕ) → j < length x → Dec (j ≡ i) → get_or (set after i z) j (pos 0) ≡ change_in t (flip_sign i x) j
    go j l (yes e) =
        rw e (get_or-set_same after i z (pos 0) (omega arith) ∙ is ∙ ap neg_ℤ (p.are i h) ∙ sym (change_own t x ok i h))
    go j l (no d) =
        get_or-set_other after i j z (pos 0) d ∙ u.sums j l
        ∙ ap₂ ◌+ℤ◌ (p.are j l) (weighed_all t x i j)
        ∙ sym (change_other t x ok i h j l (λ e. d (sym e)))

-- ---- where a row starts

-- what the code asks of a table whose checks have passed
pub usable_of : {m : ℕ} {t : Table} → Sound m t → SumsFit m t
usable_of s = record { in_range = s.mirrors.in_range; small = s.small }

pub rising_climbs : (t : Table) → Rising t → Climbs t.count t.row
rising_climbs t r = record { climb = go }
  where
    step : (k : ℕ) → suc k < t.count → t.row k ≤ t.row (suc k)
    step k h = ⊎_elim (λ l. omega arith) (λ e. omega arith) (r.rise k h)

    go : (k l : ℕ) → k ≤ l → l < t.count → t.row k ≤ t.row l
    go k zero p q = let e : k ≡ 0 = omega arith in rw e (omega arith)
    go k (suc l) p q = more (ℕ_discrete k (suc l)) (λ (h : k ≤ l). go k l h (omega arith))
      where
        more : Dec (k ≡ suc l) → (k ≤ l → t.row k ≤ t.row l) → t.row k ≤ t.row (suc l)
        more (yes e) rest = rw e (omega arith)
        more (no d) rest = omega (arith, rest (omega arith), step l q)
