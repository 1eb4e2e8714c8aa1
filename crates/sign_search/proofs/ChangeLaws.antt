-- The changes of all signs, summed entry by entry into a list. Assumes nothing.
use Prim.Native.Nat.{ℕ, zero, suc, ◌+◌, ◌*◌, ◌≤◌, ◌<◌}
use native.Mathlib.Decide.{ℕ_discrete}
use native.Mathlib.Nat.{lt_of_le_of_lt, mul-le-mul}
use native.Mathlib.Numerals.{add-one}
use native.Mathlib.Omega.{arith}
use borrow.Author.Tests.{eq-eqb, ne_eqb}
use lib.Dec.{eqb}
use mathlib.Core.Bool.{Bool, true, false, cond}
use mathlib.Core.List.{List, [], ◌∷◌}
use mathlib.Core.Path.{◌≡◌, refl, sym, ap, ap₂, ◌∙◌}
use lib.IntN.{ℤ, pos, negsuc, neg_ℤ, nat_abs, ◌+ℤ◌, ◌*ℤ◌, +ℤ_idr, +ℤ_assoc}
use lib.ListN.{length, get_or, set, drop, length-set}
use lib.Seq.{get_or-set_same, get_or-set_other, drop-set-lt}
use mir.Syntax.{w64}
use mir.Val.{SFits}
use Rattle.laws.specs.Lists.{fill}
use Rattle.laws.specs.Rows.{map_first}
use Rattle.laws.specs.Sum.{sum, total, only}
use Rattle.limits.specs.Limits.{most_sign_magnitude}
use Rattle.tables.specs.Table.{Table, sign, sign_at}
use Rattle.tables.specs.Flip.{flip_share, flip_term}
use Rattle.std.proofs.lemmas.Int.{unsigned_abs-mul, fits_signed_from_abs}
use Rattle.laws.proofs.Integer.{parts, differences, ring, times_one, abs_add, abs_cond}
use Rattle.laws.proofs.MapFirst.{get_d_map_first, length_fill, fill_again}
use Rattle.laws.proofs.Sums.{only_zero, sum_more, sum_bounded, total_le}
use Rattle.tables.proofs.Shares.{abs_sign, sign_vector}
use Rattle.tables.proofs.Flips.{flip_entries}
use Rattle.sign_search.specs.Search.{change_in}
use Rattle.sign_search.specs.Clauses.{SumsFit, Cleared, RowTurned, Summed, Changes, changes_over}

-- ---- one entry

module _ (i a j : ℕ) (x y v : ℤ) where
  flip_elsewhere : (i ≡ a → ⊥) → flip_share i a j x y v ≡ pos 0
  unfolding flip_share
  flip_elsewhere d = rw (ne_eqb i a d)

  pub flip_diagonal : i ≡ a → i ≡ j → flip_share i a j x y v ≡ pos 0
  unfolding flip_share
  flip_diagonal e d = rw (eq-eqb i a e, eq-eqb i j d)

  flip_other : i ≡ a → (i ≡ j → ⊥) → flip_share i a j x y v ≡ negsuc 3 *ℤ v *ℤ x *ℤ y
  unfolding flip_share
  flip_other e d = rw (eq-eqb i a e, ne_eqb i j d)

pub abs_flip : (i a j s t : ℕ) (v : ℤ) → nat_abs (flip_share i a j (sign s) (sign t) v) ≤ 4 * nat_abs v
unfolding flip_share
abs_flip i a j s t v =
    abs_cond (eqb i a) _ _ _ (abs_cond (eqb i j) _ _ _ (omega arith) four) (omega arith)
  where
    four : nat_abs (negsuc 3 *ℤ v *ℤ sign s *ℤ sign t) ≤ 4 * nat_abs v
    four = simp (unsigned_abs-mul, abs_sign) (omega arith)

pub plus : (x : ℕ) (v : ℤ) → x ≡ 0 → v ≡ v *ℤ sign x
plus x v e = rw e (sym (times_one v))

pub minus : (x : ℕ) (v : ℤ) → (x ≡ 0 → ⊥) → neg_ℤ v ≡ v *ℤ sign x
minus zero v d = absurd (d refl)
minus (suc x) v d = rw (parts v) (simp differences (omega ring))

pub signed_small : (x : ℕ) (v : ℤ) → nat_abs v ≤ most_sign_magnitude → nat_abs (v *ℤ sign x) ≤ most_sign_magnitude
signed_small x v h = simp (unsigned_abs-mul, abs_sign) (omega arith)

pub weighed_fits : (w v : ℤ) (x y : ℕ) → nat_abs w ≤ 8 → nat_abs v ≤ most_sign_magnitude → SFits w64 (w *ℤ (v *ℤ sign x *ℤ sign y))
weighed_fits w v x y few h =
    fits_signed_from_abs w64 (w *ℤ (v *ℤ sign x *ℤ sign y)) (rw (unsigned_abs-mul w (v *ℤ sign x *ℤ sign y))
    (lt_of_le_of_lt (mul-le-mul few (signed_small y (v *ℤ sign x) (signed_small x v h))) (omega arith)))

pub off_diagonal : (i j x y : ℕ) (v : ℤ) → (i ≡ j → ⊥) → negsuc 3 *ℤ (v *ℤ sign x *ℤ sign y) ≡ flip_share i i j (sign x) (sign y) v
off_diagonal i j x y v d = regroup v (sign x) (sign y) ∙ sym (flip_other i i j (sign x) (sign y) v refl d)
  where
    regroup : (v a b : ℤ) → negsuc 3 *ℤ (v *ℤ a *ℤ b) ≡ negsuc 3 *ℤ v *ℤ a *ℤ b
    regroup v a b = rw (parts v, parts a, parts b) (simp differences (omega ring))

-- ---- a list written from the front

pub cleared : (m : ℕ) (l l' : List ℤ) → m ≤ length l → l' ≡ fill (λ i. pos 0) m l → Cleared m l'
cleared m l l' room e = record { zero_at = λ i h. rw e (get_d_map_first (λ j _. pos 0) m l i (pos 0) h (omega arith)) }

filled : (f : ℕ → ℤ) (m : ℕ) (l l' : List ℤ) → m ≤ length l' → length l' ≡ length l → ((i : ℕ) → i < m → get_or l' i (pos 0) ≡ f i) → drop m l' ≡ drop m l
    → l' ≡ fill f m l
unfolding map_first
filled f (suc m) [] [] room e is tail = elim room [ ]
filled f (suc m) (x ∷ xs) [] room e is tail = elim room [ ]
filled f zero l l' room e is tail = tail
filled f (suc m) [] (y ∷ ys) room e is tail = let o : ◌≡◌ {A = ℕ} (suc (length ys)) 0 = e in absurd (omega arith)
filled f (suc m) (x ∷ xs) (y ∷ ys) room e is tail =
    ap₂ ◌∷◌ (is 0 (omega arith)) (filled (λ i. f (suc i)) m xs ys (omega arith) (omega arith) (λ i h. is (suc i) (omega arith)) tail)

module _ (t : Table) (x : List ℕ) (changes changes' : List ℤ) where
  pub changes_laid : Changes t x changes' → length changes' ≡ length changes → drop (length x) changes' ≡ drop (length x) changes → changes' ≡ changes_over t x changes
  unfolding changes_over
  changes_laid p e tail = filled (change_in t x) (length x) changes changes' p.many e p.are tail

  pub changes_are : length x ≤ length changes → changes' ≡ changes_over t x changes → Changes t x changes'
  unfolding changes_over
  changes_are room e = record {
    many = rw (e, length_fill (change_in t x) changes (length x)) room;
    are = λ i h. rw e (get_d_map_first (λ j _. change_in t x j) (length x) changes i (pos 0) h (omega arith));
  }

  -- it makes no difference that the list was cleared first
  pub over_cleared : (after : List ℤ) → changes' ≡ fill (λ i. pos 0) (length x) changes → after ≡ changes_over t x changes' → after ≡ changes_over t x changes
  unfolding changes_over
  over_cleared after e q = q ∙ rw e (fill_again (change_in t x) (λ i. pos 0) (length x) changes)

-- where a row's sum is laid down, the tail stays
pub turned_tail : (m row i : ℕ) (held next : ℤ) (before after : List ℤ) → row < m → RowTurned row i held next before after → drop m after ≡ drop m before
turned_tail m row i held next before after h r = ap (drop m) r.after_is ∙ go (eqb i row)
  where
    go : (b : Bool) → drop m (cond b before (set before row (get_or before row (pos 0) +ℤ held))) ≡ drop m before
    go true = refl
    go false = drop-set-lt m before row _ h

-- ---- summed

module _ (t : Table) (x : List ℕ) where
  abbrev term : ℕ → ℕ → ℤ
  term i k = flip_term t (sign_at x) i k

  abbrev size : ℕ → ℕ
  size l = nat_abs (t.value l)

  term_small : (i k : ℕ) → nat_abs (term i k) ≤ 4 * size k
  term_small i k = abs_flip i (t.row k) (t.column k) (get_or x i 0) (get_or x (t.column k) 0) (t.value k)

  pub summed_none : (row : ℕ) (changes : List ℤ) → length x ≤ length changes → row < length x → Cleared (length x) changes → Summed t x 0 row (pos 0) changes
  unfolding sum
  summed_none row changes room h p = record {
    many = room;
    row_in = h;
    small = omega arith;
    sums = λ i l. ap₂ ◌+ℤ◌ (p.zero_at i l) (only_zero row i);
  }

  module _ (k row : ℕ) (held : ℤ) (changes : List ℤ) (ok : SumsFit (length x) t) (p : Summed t x k row held changes) where
    -- the row's sum, laid down
    laid : get_or changes row (pos 0) +ℤ held ≡ sum k (term row)
    laid = ap (λ (z : ℤ). get_or changes row (pos 0) +ℤ z) (sym (rw (eq-eqb row row refl))) ∙ p.sums row p.row_in

    pub row_room : row < length changes
    row_room = omega arith

    pub laid_fits : k ≤ t.count → SFits w64 (get_or changes row (pos 0) +ℤ held)
    laid_fits h =
        rw laid (fits_signed_from_abs w64 (sum k (term row)) (lt_of_le_of_lt (sum_bounded 4 t.count k (term row) size (term_small row) h) (omega arith)))

    laid_sums : (i : ℕ) → i < length x → get_or (set changes row (get_or changes row (pos 0) +ℤ held)) i (pos 0) ≡ sum k (term i)
    laid_sums i l = go (ℕ_discrete i row)
      where
        go : Dec (i ≡ row) → get_or (set changes row (get_or changes row (pos 0) +ℤ held)) i (pos 0) ≡ sum k (term i)
        go (yes e) = rw e (get_or-set_same changes row (get_or changes row (pos 0) +ℤ held) (pos 0) row_room ∙ laid)
        go (no d) =
            get_or-set_other changes row i (get_or changes row (pos 0) +ℤ held) (pos 0) d
            ∙ sym (+ℤ_idr _) ∙ ap (λ (z : ℤ). get_or changes i (pos 0) +ℤ z) (sym (rw (ne_eqb row i (λ e. d (sym e))))) ∙ p.sums i l

    -- where the next entry is of row i
    pub summed_turn : (i : ℕ) (next : ℤ) (after : List ℤ) → i < length x → RowTurned row i held next changes after → Summed t x k i next after
    summed_turn i next after h r = go (ℕ_discrete i row) r.next_is r.after_is
      where
        go : Dec (i ≡ row) → next ≡ cond (eqb i row) held (pos 0) → after ≡ cond (eqb i row) changes (set changes row (get_or changes row (pos 0) +ℤ held)) → Summed t x k i next after
        go (yes e) n a = rw (n, a, eq-eqb i row e, e) p
        go (no d) n a =
            rw (n, a, ne_eqb i row d)
            (record {
              many = simp length-set p.many;
              row_in = h;
              small = omega arith;
              sums = λ j l. ap₂ ◌+ℤ◌ (laid_sums j l) (only_zero i j) ∙ +ℤ_idr _;
            })

    module _ (h : k < t.count) (same : row ≡ t.row k) where
      more_small : nat_abs (held +ℤ term row k) ≤ 4 * total (suc k) size
      unfolding total
      more_small = omega (arith, abs_add held (term row k), term_small row k)

      pub more_fits : SFits w64 (held +ℤ term row k)
      more_fits = fits_signed_from_abs w64 (held +ℤ term row k) (omega (arith, more_small, total_le t.count (suc k) size h))

      pub summed_more : (z : ℤ) → z ≡ held +ℤ term row k → Summed t x (k + 1) row z changes
      summed_more z e = record {
        many = p.many;
        row_in = p.row_in;
        small = rw (e, add-one k) more_small;
        sums = λ i l. go i l (ℕ_discrete row i);
      }
        where
          go : (i : ℕ) → i < length x → Dec (row ≡ i) → get_or changes i (pos 0) +ℤ only row i z ≡ sum (k + 1) (term i)
          go i l (yes d) =
              rw (eq-eqb row i d, ← d, e, sum_more k (term row)) (sym (+ℤ_assoc (get_or changes row (pos 0)) held (term row k)) ∙ ap (λ (s : ℤ). s +ℤ term row k) laid)
          go i l (no d) =
              rw (ne_eqb row i d, sum_more k (term i))
              (ap (λ (s : ℤ). get_or changes i (pos 0) +ℤ s) (sym (rw (ne_eqb row i d))) ∙ p.sums i l ∙ sym (+ℤ_idr (sum k (term i)))
              ∙ ap (λ (s : ℤ). sum k (term i) +ℤ s)
              (sym (flip_elsewhere i (t.row k) (t.column k) (sign_at x i) (sign_at x (t.column k)) (t.value k) (λ q. d (same ∙ sym q)))))

    -- and after the last
    pub summed_all : k ≡ t.count → (z : ℤ) → z ≡ get_or changes row (pos 0) +ℤ held → Changes t x (set changes row z)
    unfolding change_in
    summed_all e z q = record {
      many = simp length-set p.many;
      are = λ i l. rw q (laid_sums i l ∙ ap (λ (n : ℕ). sum n (term i)) e ∙ flip_entries ok.in_range (sign_at x) i l (sign_vector x));
    }

  pub changes_none : (changes : List ℤ) → SumsFit (length x) t → t.count ≡ 0 → length x ≤ length changes → Cleared (length x) changes → Changes t x changes
  unfolding change_in sum
  changes_none changes ok e room p = record {
    many = room;
    are = λ i l. p.zero_at i l ∙ ap (λ (n : ℕ). sum n (term i)) (sym e) ∙ flip_entries ok.in_range (sign_at x) i l (sign_vector x);
  }
