-- The next entry, as the sign table is written place by place: what stands at a place, what lies between, and the sum of a row.
use mathlib.Core.Path.{◌≡◌, refl, sym, ◌∙◌, ap, ap₂}
use mathlib.Core.Logic.{inl, inr}
use mathlib.Core.Bool.{Bool, true, false, not, cond}
use Prim.Native.Nat.{ℕ, suc, ◌+◌, ◌<◌, ◌≤◌}
use Rattle.std.specs.Prelude.{Option, Some, None}
use native.Mathlib.Decide.{ℕ_discrete, dec_lt, dec_le}
use native.Mathlib.Omega.{arith}
use borrow.Author.Tests.{eq-eqb, ne_eqb, lt-ltb, le-ltb, le-leb, lt-leb}
use lib.Dec.{eqb, ltb, leb}
use lib.IntN.{ℤ, pos, ◌+ℤ◌, ◌*ℤ◌}
use Rattle.laws.specs.Sum.{sum, only}
use Rattle.laws.proofs.Sums.{sum_ext, sum_add, sum_only, sum_swap, sum_zero, sum_past}
use Rattle.tables.specs.Table.{Table, Before, InRange, Rising, value_at, stored_at}
use Rattle.sign_table.specs.SignTable.{absorbed, is_zero}
use Rattle.sign_table.specs.Walk.{At, in_row, is_here, stored_column, comes_first, next_column, here_value, after_here, row_term, row_total, RowAt, RowSummed}
use Rattle.tables.proofs.Places.{only_sum}
use Rattle.tables.proofs.Mirrors.{rises, value_here, stored_here, stored_none, unstored_zero}

pub at_start : (h : Table) → At h 0 0 0
at_start h = record { inside = omega arith; behind = λ l b. absurd (omega arith); ahead = λ l a b. go (h.row l) (h.column l) }
  where
    go : (i j : ℕ) → Before i j 0 0 → ⊥
    go i j (inl p) = omega arith
    go i j (inr p) = omega arith

-- in order of places
later : (x y i j e : ℕ) → j ≤ e → Before x y i j → Before x y i e
later x y i j e h (inl p) = inl p
later x y i j e h (inr p) = inr (omega arith)

not_between : (i j x y : ℕ) → Before i j x y → Before x y i (suc j) → ⊥
not_between i j x y (inl p) (inl q) = omega arith
not_between i j x y (inl p) (inr q) = omega arith
not_between i j x y (inr p) (inl q) = omega arith
not_between i j x y (inr p) (inr q) = omega arith

module _ {h : Table} (ri : Rising h) {k i j : ℕ} (at : At h k i j) where
  -- on to a later column of the row, up to entry k
  pub at_gap : (e : ℕ) → j ≤ e → (k < h.count → h.row k ≡ i → e ≤ h.column k) → At h k i e
  at_gap e up free =
      record {
        inside = at.inside;
        behind = λ l b. later _ _ _ _ _ up (at.behind l b);
        ahead = λ l a b before. go l a b (ℕ_discrete k l) before;
      }
    where
      first : (l : ℕ) → k < l → l < h.count → h.row l ≡ i → h.column l < e → Before (h.row k) (h.column k) (h.row l) (h.column l) → ⊥
      first l m b r q (inl p) = at.ahead k (omega arith) (omega arith) (inl (omega arith))
      first l m b r q (inr p) = omega (arith, free (omega arith) (p.0 ∙ r))

      go : (l : ℕ) → k ≤ l → l < h.count → Dec (k ≡ l) → Before (h.row l) (h.column l) i e → ⊥
      go l a b d (inl p) = at.ahead l a b (inl p)
      go l a b (yes s) (inr p) = omega (arith, free (omega arith) (ap h.row s ∙ p.0), ap h.column s)
      go l a b (no d) (inr p) = first l (omega arith) b p.0 p.1 (rises ri k l (omega arith) b)

  -- past entry k, which stands there
  pub at_here : k < h.count → h.row k ≡ i → h.column k ≡ j → At h (k + 1) i (suc j)
  at_here below r q =
      record {
        inside = omega arith;
        behind = λ l b. go l b (ℕ_discrete l k);
        ahead = λ l a b before. not_between i j _ _ (rw (r, q) at (rises ri k l (omega arith) b)) before;
      }
    where
      go : (l : ℕ) → l < k + 1 → Dec (l ≡ k) → Before (h.row l) (h.column l) i (suc j)
      go l b (yes e) = inr (ap h.row e ∙ r, omega (arith, ap h.column e))
      go l b (no d) = later _ _ _ _ _ (omega arith) (at.behind l (omega arith))

  -- nothing stands between
  pub gap_free : (x : ℕ) → j ≤ x → (k < h.count → h.row k ≡ i → x < h.column k) → stored_at h i x ≡ false
  gap_free x up free = stored_none h i x (λ l b r q. go l b r q (dec_lt l k))
    where
      wrong : (a b : ℕ) → a ≡ i → b ≡ x → Before a b i j → ⊥
      wrong a b r q (inl p) = omega arith
      wrong a b r q (inr p) = omega arith

      go : (l : ℕ) → l < h.count → h.row l ≡ i → h.column l ≡ x → Dec (l < k) → ⊥
      go l b r q (yes m) = wrong _ _ r q (at.behind l m)
      go l b r q (no m) = (at_gap (suc x) (omega arith) free).ahead l (omega arith) b (inr (r, omega arith))

  -- entry k, in this row, is not behind
  pub column_ahead : k < h.count → h.row k ≡ i → j ≤ h.column k
  column_ahead b r = go (dec_le j (h.column k))
    where
      go : Dec (j ≤ h.column k) → j ≤ h.column k
      go (yes l) = l
      go (no n) = absurd (at.ahead k (omega arith) b (inr (r, omega arith)))

-- ---- what stands at the cursor's place

data Standing (h : Table) (k i j : ℕ) (here : Bool) : Type 0 where
  stands : here ≡ true → k < h.count → h.row k ≡ i → h.column k ≡ j → Standing h k i j here
  empty : here ≡ false → (k < h.count → h.row k ≡ i → h.column k ≡ j → ⊥) → Standing h k i j here

standing : (h : Table) (k i j : ℕ) → Standing h k i j (is_here h.count h.row h.column i j k)
standing h k i j = go (dec_lt k h.count) (ℕ_discrete (h.row k) i) (ℕ_discrete (h.column k) j)
  where
    go : Dec (k < h.count) → Dec (h.row k ≡ i) → Dec (h.column k ≡ j) → Standing h k i j (is_here h.count h.row h.column i j k)
    go (yes b) (yes r) (yes q) = stands (rw (lt-ltb k h.count b, eq-eqb (h.row k) i r, eq-eqb (h.column k) j q)) b r q
    go (yes b) (yes r) (no q) = empty (rw (lt-ltb k h.count b, eq-eqb (h.row k) i r, ne_eqb (h.column k) j q)) (λ _ _ e. q e)
    go (yes b) (no r) q = empty (rw (lt-ltb k h.count b, ne_eqb (h.row k) i r)) (λ _ e _. r e)
    go (no b) r q = empty (rw (le-ltb k h.count (omega arith))) (λ e _ _. b e)

module _ {h : Table} (ri : Rising h) {k i j : ℕ} (at : At h k i j) where
  -- above column j, if entry k is in this row and not at j
  above : (k < h.count → h.row k ≡ i → h.column k ≡ j → ⊥) → k < h.count → h.row k ≡ i → j < h.column k
  above d b r = go (ℕ_discrete (h.column k) j) (column_ahead ri at b r)
    where
      go : Dec (h.column k ≡ j) → j ≤ h.column k → j < h.column k
      go (yes e) up = absurd (d b r e)
      go (no e) up = omega arith

  pub here_value_lem : (c : ℕ → ℤ) → here_value h c i j k ≡ absorbed (value_at h) c i j
  unfolding absorbed
  here_value_lem c = ap (λ z. z +ℤ only i j (pos 2 *ℤ c i)) (go (standing h k i j))
    where
      go : Standing h k i j (is_here h.count h.row h.column i j k) → cond (is_here h.count h.row h.column i j k) (h.value k) (pos 0) ≡ value_at h i j
      go (stands e b r q) = rw e (sym (value_here ri i j k b r q))
      go (empty e d) = rw e (sym (unstored_zero h i j (gap_free ri at j (omega arith) (above d))))

  pub here_next : At h (after_here h.count h.row h.column i j k) i (suc j)
  here_next = go (standing h k i j)
    where
      go : Standing h k i j (is_here h.count h.row h.column i j k) → At h (after_here h.count h.row h.column i j k) i (suc j)
      go (stands e b r q) = rw e (at_here ri at b r q)
      go (empty e d) = rw e (at_gap ri at (suc j) (omega arith) (λ b r. above d b r))

-- ---- the next kept column

-- either the next stored one, with no kept diagonal before it, or the diagonal
data Stop (h : Table) (c : ℕ → ℤ) (k i j s e : ℕ) : Type 0 where
  stored : e ≡ s → ((x : ℕ) → j ≤ x → x < s → i ≡ x → is_zero (c i) ≡ true) → Stop h c k i j s e
  diagonal : e ≡ i → is_zero (c i) ≡ false → j ≤ i → i < s → Stop h c k i j s e

stop : (h : Table) (c : ℕ → ℤ) (k i j s : ℕ) → Stop h c k i j s (cond (is_zero (c i)) s (cond (leb j i) (cond (ltb i s) i s) s))
stop h c k i j s = go (is_zero (c i)) refl (dec_le j i) (dec_lt i s)
  where
    go : (t : Bool) → is_zero (c i) ≡ t → Dec (j ≤ i) → Dec (i < s) → Stop h c k i j s (cond t s (cond (leb j i) (cond (ltb i s) i s) s))
    go true z d f = stored refl (λ x a b e. z)
    go false z (yes d) (yes f) = rw (le-leb j i d, lt-ltb i s f) (diagonal refl z d f)
    go false z (yes d) (no f) = rw (le-leb j i d, le-ltb i s (omega arith)) (stored refl (λ x a b e. absurd (f (omega arith))))
    go false z (no d) f = rw (lt-leb j i (omega arith)) (stored refl (λ x a b e. absurd (d (omega arith))))

-- what the next stored column is
record Column (n : ℕ) (h : Table) (k i j s : ℕ) : Type 0 where
  pub low : j ≤ s
  pub high : s ≤ n
  pub is : k < h.count → h.row k ≡ i → s ≡ h.column k
  pub back : s < n → (k < h.count) × (h.row k ≡ i) × (h.column k ≡ s)

-- a column, or the row's end where there is none
abbrev pub column_or : ℕ → Option ℕ → ℕ
column_or n None = n
column_or n (Some j) = j

stored_column_lem : {n : ℕ} {h : Table} {k i j : ℕ} → Rising h → InRange n h → At h k i j → j ≤ n → Column n h k i j (column_or n (stored_column h.count h.row h.column i k))
unfolding stored_column
stored_column_lem {n} {h} {k} {i} {j} ri r at up = go (dec_lt k h.count) (ℕ_discrete (h.row k) i)
  where
    go : Dec (k < h.count) → Dec (h.row k ≡ i) → Column n h k i j (column_or n (cond (in_row h.count h.row i k) (Some (h.column k)) None))
    go (yes b) (yes q) =
        rw (lt-ltb k h.count b, eq-eqb (h.row k) i q)
        (record { low = column_ahead ri at b q; high = omega (arith, r.cols_in k b); is = λ _ _. refl; back = λ _. (b, q, refl) })
    go (yes b) (no q) =
        rw (lt-ltb k h.count b, ne_eqb (h.row k) i q)
        (record { low = up; high = omega arith; is = λ _ e. absurd (q e); back = λ e. absurd (omega arith) })
    go (no b) q =
        rw (le-ltb k h.count (omega arith))
        (record { low = up; high = omega arith; is = λ e _. absurd (b e); back = λ e. absurd (omega arith) })

-- whether the absorbed table keeps (i, j)
abbrev pub held_at : Table → (ℕ → ℤ) → ℕ → ℕ → Bool
held_at h c i j = cond (stored_at h i j) true (cond (eqb i j) (not (is_zero (c i))) false)

pub record Next (n : ℕ) (h : Table) (c : ℕ → ℤ) (k i j e : ℕ) : Type 0 where
  pub low : j ≤ e
  pub high : e ≤ n
  pub gap : (x : ℕ) → j ≤ x → x < e → held_at h c i x ≡ false
  pub kept : e < n → held_at h c i e ≡ true
  pub at : At h k i e

-- a stored column lies in range, and so does the next kept one
stored_below : {n : ℕ} {h : Table} {i : ℕ} (k : ℕ) → InRange n h → i < n → column_or 0 (stored_column h.count h.row h.column i k) < n
unfolding stored_column
stored_below {n} {h} {i} k r below = go (dec_lt k h.count) (ℕ_discrete (h.row k) i)
  where
    go : Dec (k < h.count) → Dec (h.row k ≡ i) → column_or 0 (cond (in_row h.count h.row i k) (Some (h.column k)) None) < n
    go (yes b) (yes q) = rw (lt-ltb k h.count b, eq-eqb (h.row k) i q) (r.cols_in k b)
    go (yes b) (no q) = rw (lt-ltb k h.count b, ne_eqb (h.row k) i q) (omega arith)
    go (no b) q = rw (le-ltb k h.count (omega arith)) (omega arith)

pub next_column_below : {n : ℕ} {h : Table} {i : ℕ} (k j : ℕ) (c : ℕ → ℤ) → InRange n h → i < n → column_or 0 (next_column h.count h.row h.column c i j k) < n
unfolding next_column
next_column_below {n} {h} {i} k j c r below = go (is_zero (c i)) (leb j i) (stored_column h.count h.row h.column i k) (stored_below k r below)
  where
    go : (z l : Bool) (s : Option ℕ) → column_or 0 s < n → column_or 0 (cond z s (cond l (cond (comes_first i s) (Some i) s) s)) < n
    go true l s b = b
    go false false s b = b
    go false true None b = below
    go false true (Some x) b = pick (ltb i x)
      where
        pick : (t : Bool) → column_or 0 (cond t (Some i) (Some x)) < n
        pick true = below
        pick false = b

pub next_column_lem : {n : ℕ} {h : Table} {k i j : ℕ} (c : ℕ → ℤ) → Rising h → InRange n h → At h k i j → i < n → j ≤ n
    → Next n h c k i j (column_or n (next_column h.count h.row h.column c i j k))
unfolding next_column
next_column_lem {n} {h} {k} {i} {j} c ri r at below up =
    let s = stored_column h.count h.row h.column i k in
    rw (or_end (is_zero (c i)) (leb j i) s) (go (column_or n s) _ (stored_column_lem ri r at up) (stop h c k i j _))
  where
    or_end : (z l : Bool) (s : Option ℕ)
        → column_or n (cond z s (cond l (cond (comes_first i s) (Some i) s) s)) ≡ cond z (column_or n s) (cond l (cond (ltb i (column_or n s)) i (column_or n s)) (column_or n s))
    or_end true l s = refl
    or_end false false s = refl
    or_end false true None = rw (lt-ltb i n below) refl
    or_end false true (Some x) = pick (ltb i x)
      where
        pick : (t : Bool) → column_or n (cond t (Some i) (Some x)) ≡ cond t i x
        pick true = refl
        pick false = refl

    free : (x s : ℕ) → Column n h k i j s → j ≤ x → x < s → stored_at h i x ≡ false
    free x s col a b = gap_free ri at x a (λ b' r'. omega (arith, col.is b' r'))

    none : (x : ℕ) → stored_at h i x ≡ false → (i ≡ x → is_zero (c i) ≡ true) → held_at h c i x ≡ false
    none x e z = rw e (pick (ℕ_discrete i x))
      where
        pick : Dec (i ≡ x) → cond (eqb i x) (not (is_zero (c i))) false ≡ false
        pick (yes d) = rw (eq-eqb i x d, z d)
        pick (no d) = rw (ne_eqb i x d)

    go : (s e : ℕ) → Column n h k i j s → Stop h c k i j s e → Next n h c k i j e
    go s e col (stored q z) =
        record {
          low = omega (arith, col.low);
          high = omega (arith, col.high);
          gap = λ x a b. none x (free x s col a (omega arith)) (z x a (omega arith));
          kept = λ b. let (b', r', q') = col.back (omega arith) in rw (stored_here h i e k b' r' (q' ∙ sym q));
          at = at_gap ri at e (omega (arith, col.low)) (λ b' r'. omega (arith, col.is b' r'));
        }
    go s e col (diagonal q z a b) =
        record {
          low = omega arith;
          high = omega arith;
          gap = λ x a' b'. none x (free x s col a' (omega arith)) (λ d. absurd (omega arith));
          kept = λ _. rw q (diag (stored_at h i i));
          at = at_gap ri at e (omega arith) (λ b' r'. omega (arith, col.is b' r'));
        }
      where
        diag : (t : Bool) → cond t true (cond (eqb i i) (not (is_zero (c i))) false) ≡ true
        diag true = refl
        diag false = rw (eq-eqb i i refl, z)

-- ---- the sum of a row

pub row_start_lem : {h : Table} {k i : ℕ} → At h k i 0 → RowAt h.count h.row k i
row_start_lem {h} {k} {i} at =
    record { inside = at.inside; behind = λ l b. low _ _ (at.behind l b); ahead = λ l a b. high l a b (dec_lt (h.row l) i) }
  where
    low : (x y : ℕ) → Before x y i 0 → x ≤ i
    low x y (inl p) = omega arith
    low x y (inr p) = omega arith

    high : (l : ℕ) → k ≤ l → l < h.count → Dec (h.row l < i) → i ≤ h.row l
    high l a b (yes p) = absurd (at.ahead l a b (inl p))
    high l a b (no p) = omega arith

pub row_step : (count : ℕ) (row : ℕ → ℕ) (k i : ℕ) → RowAt count row k i → k < count → row k ≡ i → RowAt count row (k + 1) i
row_step count row k i at b r =
    record { inside = omega arith; behind = λ l m. go l m (ℕ_discrete l k); ahead = λ l a m. at.ahead l (omega arith) m }
  where
    go : (l : ℕ) → l < k + 1 → Dec (l ≡ k) → row l ≤ i
    go l m (yes e) = omega (arith, ap row e)
    go l m (no d) = at.behind l (omega arith)

-- the row is done at the end and where another row starts
pub in_row_false : (count : ℕ) (row : ℕ → ℕ) (i k : ℕ) → (k < count → row k ≡ i → ⊥) → in_row count row i k ≡ false
in_row_false count row i k d = go (dec_lt k count) (ℕ_discrete (row k) i)
  where
    go : Dec (k < count) → Dec (row k ≡ i) → in_row count row i k ≡ false
    go (yes b) (yes r) = absurd (d b r)
    go (yes b) (no r) = rw (lt-ltb k count b, ne_eqb (row k) i r)
    go (no b) r = rw (le-ltb k count (omega arith))

pub row_end : (h : Table) (k i : ℕ) → Rising h → RowAt h.count h.row k i → in_row h.count h.row i k ≡ false → At h k (suc i) 0
row_end h k i ri at e =
    record { inside = at.inside; behind = λ l b. inl (omega (arith, at.behind l b)); ahead = λ l a b before. go l a b (ℕ_discrete k l) before }
  where
    first : k < h.count → h.row k ≡ i → ⊥
    first b r = cc (rw (lt-ltb k h.count b, eq-eqb (h.row k) i r) at e)

    go : (l : ℕ) → k ≤ l → l < h.count → Dec (k ≡ l) → Before (h.row l) (h.column l) (suc i) 0 → ⊥
    go l a b d (inr p) = omega arith
    go l a b (yes s) (inl p) = first (omega arith) (omega (arith, at.ahead k (omega arith) (omega arith), ap h.row s))
    go l a b (no d) (inl p) = climb (rises ri k l (omega arith) b)
      where
        climb : Before (h.row k) (h.column k) (h.row l) (h.column l) → ⊥
        climb (inl q) = omega (arith, at.ahead k (omega arith) (omega arith))
        climb (inr q) = first (omega arith) (omega (arith, at.ahead k (omega arith) (omega arith)))

-- what a row's sum asks
pub total_start : {h : Table} {k i : ℕ} → At h k i 0 → sum k (row_term h.row h.value i) ≡ pos 0
total_start {h} {k} {i} at = sum_ext k _ (λ l. pos 0) (λ l b. rw (ne_eqb (h.row l) i (λ e. low l (at.behind l b) e))) ∙ sum_zero k
  where
    low : (l : ℕ) → Before (h.row l) (h.column l) i 0 → h.row l ≡ i → ⊥
    low l (inl p) e = omega arith
    low l (inr p) e = omega arith

pub total_end : {h : Table} {k i : ℕ} → At h k (suc i) 0 → sum k (row_term h.row h.value i) ≡ sum h.count (row_term h.row h.value i)
total_end {h} {k} {i} at = sym (sum_past (row_term h.row h.value i) k h.count at.inside (λ l a b. rw (ne_eqb (h.row l) i (λ e. at.ahead l a b (inl (omega arith))))))

-- the row's sum as the code finds it
pub row_summed : {h : Table} {i next : ℕ} {linear total : ℤ} → Rising h → RowSummed h.count h.row h.value linear i next total
    → (At h next (suc i) 0) × (total ≡ sum h.count (row_term h.row h.value i) +ℤ pos 2 *ℤ linear)
row_summed {h} {i} {next} {linear} ri s =
    let at : At h next (suc i) 0 = row_end h next i ri s.at s.past in
    (at, s.is ∙ ap (λ z. z +ℤ pos 2 *ℤ linear) (total_end at))

pub row_total_lem : {n : ℕ} {h : Table} (c : ℕ → ℤ) {i : ℕ} → InRange n h → i < n → sum n (absorbed (value_at h) c i) ≡ row_total h c i
unfolding absorbed value_at
row_total_lem {n} {h} c {i} r below =
    sum_add n (value_at h i) (λ j. only i j (pos 2 *ℤ c i))
    ∙ ap₂ ◌+ℤ◌
    (sum_swap n h.count (λ j l. only (h.row l) i (only (h.column l) j (h.value l)))
    ∙ sum_ext h.count _ _ (λ l b.
    only_sum n (h.row l) i (λ j. only (h.column l) j (h.value l)) ∙ ap (only (h.row l) i) (sum_only n (h.column l) (λ j. h.value l) (r.cols_in l b))))
    (sum_only n i (λ j. pos 2 *ℤ c i) below)
