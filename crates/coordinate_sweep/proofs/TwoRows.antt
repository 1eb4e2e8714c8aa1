-- Two rows that follow each other, of a list that lies row after row, and a gradient that doesn't see a row.
--     pair_moved       both rows moved, then each divided by its norm: the same as one row after the other
--     gradient_away    a row that no entry names may change
-- Assumes nothing.
use mathlib.Core.Path.{◌≡◌, refl, sym, ap, ◌∙◌}
use mathlib.Core.Bool.{Bool, true, false}
use mathlib.Core.Logic.{◌⊎◌, inl, inr}
use mathlib.Core.List.{List, ◌++◌, append_assoc}
use Prim.Native.Nat.{ℕ, zero, suc, ◌+◌, ◌*◌, ◌-◌, ◌≤◌, ◌<◌}
use native.Mathlib.Nat.{suc-mul}
use native.Mathlib.Numerals.{add-one}
use native.Mathlib.Omega.{arith}
use lib.Dec.{eqb}
use lib.Ieee.{Float, nan}
use lib.ListN.{length, get_or, take, drop, length-append, take-append-drop, get_or-append}
use lib.Seq.{take_at, drop_at, drop-drop, get_or-take, get_or-drop, get_or-append-add, length-take-le}
use borrow.Author.Tests.{eq-eqb}
use lib.Ieee
use Rattle.std.proofs.lemmas.Bool.{cases_lt}
use Rattle.laws.specs.Turns.{up_to}
use Rattle.laws.specs.Rows.{row_of, set_row}
use Rattle.laws.specs.Lists.{any_below}
use Rattle.laws.proofs.Any.{below_false}
use Rattle.laws.proofs.MapFirst.{length_map_first}
use Rattle.laws.proofs.Made.{tabulate_ext}
use Rattle.laws.proofs.Parts.{row_within, length_row_of}
use Rattle.ieee.specs.Floats.{◌/ᶠ◌, zero64, one64}
use Rattle.ieee.specs.Sqrt.{sqrt_of}
use Rattle.factor.specs.Norms.{squared_norm}
use Rattle.factor.specs.Vectors.{scaled}
use Rattle.factor.specs.Columns.{sum_to_column}
use Rattle.row_gradient.specs.Columns.{column_to}
use Rattle.row_gradient.specs.Gradient.{gradient_of}
use Rattle.coordinate_sweep.specs.Sweep.{momentum_row, exact_row, normalized, pick_row, wrote, update_row, gradient_at, row_to, row_by, swept_row, sweep_to, meets_next}
use Rattle.row_gradient.proofs.ByColumns.{gradient_columns}

module _ {A : Type 0} (rank : ℕ) where
  set_at_row : (i : ℕ) (a p x u : List A) → length a ≡ i * rank → length p ≡ rank → set_row rank (a ++ (p ++ x)) i u ≡ a ++ (u ++ x)
  set_at_row i a p x u l n = rw (take_at a (p ++ x) (i * rank) l, drop_at a (p ++ x) (i * rank) l, drop_at p x rank n)

  row_at : (i : ℕ) (a p x : List A) → length a ≡ i * rank → length p ≡ rank → row_of rank (a ++ (p ++ x)) i ≡ p
  row_at i a p x l n = rw (drop_at a (p ++ x) (i * rank) l) (take_at p x rank n)

  two_rows : (i : ℕ) (a p : List A) → length a ≡ i * rank → length p ≡ rank → length (a ++ p) ≡ (i + 1) * rank
  two_rows i a p l n = rw (length-append, l, n, add-one i, suc-mul)

  set_at_next : (i : ℕ) (a p q b v : List A) → length a ≡ i * rank → length p ≡ rank → length q ≡ rank
      → set_row rank (a ++ (p ++ (q ++ b))) (i + 1) v ≡ a ++ (p ++ (v ++ b))
  set_at_next i a p q b v l n k =
      ap (λ (t : List A). set_row rank t (i + 1) v) (sym (append_assoc a p (q ++ b)))
      ∙ set_at_row (i + 1) (a ++ p) q b v (two_rows i a p l n) k
      ∙ append_assoc a p (v ++ b)

  row_at_next : (i : ℕ) (a p q b : List A) → length a ≡ i * rank → length p ≡ rank → length q ≡ rank
      → row_of rank (a ++ (p ++ (q ++ b))) (i + 1) ≡ q
  row_at_next i a p q b l n k =
      ap (λ (t : List A). row_of rank t (i + 1)) (sym (append_assoc a p (q ++ b)))
      ∙ row_at (i + 1) (a ++ p) q b (two_rows i a p l n) k

  split_rows : (i : ℕ) (xs : List A) → xs ≡ take (i * rank) xs ++ (row_of rank xs i ++ (row_of rank xs (i + 1) ++ drop rank (drop ((i + 1) * rank) xs)))
  split_rows i xs =
      let s : (i + 1) * rank ≡ i * rank + rank = rw add-one (suc-mul i rank) in
      let d : drop rank (drop (i * rank) xs) ≡ drop ((i + 1) * rank) xs = rw s (drop-drop rank (i * rank) xs) in
      sym (take-append-drop (i * rank) xs)
      ∙ ap (λ (t : List A). take (i * rank) xs ++ t)
      (sym (take-append-drop rank (drop (i * rank) xs))
      ∙ ap (λ (t : List A). row_of rank xs i ++ t) (d ∙ sym (take-append-drop rank (drop ((i + 1) * rank) xs))))

  -- an element of another row stays
  get_d_before : (i : ℕ) (xs u : List A) (x : ℕ) (d : A) → i * rank ≤ length xs → x < i * rank → get_or (set_row rank xs i u) x d ≡ get_or xs x d
  get_d_before i xs u x d l h =
      get_or-append (take (i * rank) xs) (u ++ drop rank (drop (i * rank) xs)) d x (rw (length-take-le (i * rank) xs l) h)
      ∙ get_or-take (i * rank) xs x d h

  get_d_behind : (i : ℕ) (xs u : List A) (y : ℕ) (d : A) → i * rank ≤ length xs → length u ≡ rank
      → get_or (set_row rank xs i u) (i * rank + (rank + y)) d ≡ get_or xs (i * rank + (rank + y)) d
  get_d_behind i xs u y d l n =
      (rw (length-take-le (i * rank) xs l) at (get_or-append-add (take (i * rank) xs) (u ++ drop rank (drop (i * rank) xs)) (rank + y) d))
      ∙ (rw n at (get_or-append-add u (drop rank (drop (i * rank) xs)) y d))
      ∙ get_or-drop rank (drop (i * rank) xs) y d
      ∙ get_or-drop (i * rank) xs (rank + y) d

  pub get_d_other : (i k j : ℕ) (xs u : List A) (d : A) → i * rank + rank ≤ length xs → length u ≡ rank → (k ≡ i → ⊥) → j < rank
      → get_or (set_row rank xs i u) (k * rank + j) d ≡ get_or xs (k * rank + j) d
  get_d_other i k j xs u d l n h m = go (cases_lt k i)
    where
      behind : i < k → get_or (set_row rank xs i u) (k * rank + j) d ≡ get_or xs (k * rank + j) d
      behind b =
          let e : k * rank + j ≡ i * rank + (rank + (k * rank + j - (i * rank + rank))) = omega (arith, row_within i k rank b) in
          rw e (get_d_behind i xs u (k * rank + j - (i * rank + rank)) d (omega arith) n)

      go : (k < i) ⊎ (i ≤ k) → get_or (set_row rank xs i u) (k * rank + j) d ≡ get_or xs (k * rank + j) d
      go (inl b) = get_d_before i xs u (k * rank + j) d (omega arith) (omega (arith, row_within k i rank b))
      go (inr b) = behind (omega arith)

-- both rows moved by f and g, then each made by m of itself: each row by itself, one after the other
pub pair_moved : (rank i : ℕ) (f g : List Float → List Float) (m : List Float → List Float → List Float) (xs ys zs : List Float)
    → (i + 1) * rank + rank ≤ length xs
    → ((r : List Float) → length (f r) ≡ length r) → ((r : List Float) → length (g r) ≡ length r) → ((w r : List Float) → length (m w r) ≡ length r)
    → ys ≡ row_to rank (row_to rank xs i f) (i + 1) g
    → zs ≡ row_to rank (row_to rank ys i (m (row_of rank ys i))) (i + 1) (m (row_of rank ys (i + 1)))
    → zs ≡ row_to rank (row_to rank xs i (λ r. m (f r) (f r))) (i + 1) (λ r. m (g r) (g r))
unfolding row_to
pair_moved rank i f g m xs ys zs h lf lg lm ey ez =
    let s : (i + 1) * rank ≡ i * rank + rank = rw add-one (suc-mul i rank) in
    let a : List Float = take (i * rank) xs in
    let p : List Float = row_of rank xs i in
    let q : List Float = row_of rank xs (i + 1) in
    let b : List Float = drop rank (drop ((i + 1) * rank) xs) in
    let la : length a ≡ i * rank = length-take-le (i * rank) xs (omega arith) in
    let lp : length p ≡ rank = length_row_of rank i xs (omega arith) in
    let lq : length q ≡ rank = length_row_of rank (i + 1) xs h in
    let first : (u : List Float) → set_row rank xs i u ≡ a ++ (u ++ (q ++ b)) = λ u. ap (λ (t : List Float). set_row rank t i u) (split_rows rank i xs) ∙ set_at_row rank i a p (q ++ b) u la lp in
    let y : ys ≡ a ++ (f p ++ (g q ++ b)) = ey ∙ rw (first (f p), row_at_next rank i a (f p) q b la (lf p ∙ lp) lq) (set_at_next rank i a (f p) q b (g q) la (lf p ∙ lp) lq) in
    let y0 : row_of rank ys i ≡ f p = rw y (row_at rank i a (f p) (g q ++ b) la (lf p ∙ lp)) in
    let y1 : row_of rank ys (i + 1) ≡ g q = rw y (row_at_next rank i a (f p) (g q) b la (lf p ∙ lp) (lg q ∙ lq)) in
    let z0 : set_row rank ys i (m (f p) (f p)) ≡ a ++ (m (f p) (f p) ++ (g q ++ b)) = rw y (set_at_row rank i a (f p) (g q ++ b) (m (f p) (f p)) la (lf p ∙ lp)) in
    let n0 : length (m (f p) (f p)) ≡ rank = lm (f p) (f p) ∙ lf p ∙ lp in
    let left : zs ≡ a ++ (m (f p) (f p) ++ (m (g q) (g q) ++ b)) =
    ez ∙ rw (y0, y1, z0, row_at_next rank i a (m (f p) (f p)) (g q) b la n0 (lg q ∙ lq)) (set_at_next rank i a (m (f p) (f p)) (g q) b (m (g q) (g q)) la n0 (lg q ∙ lq)) in
    left
    ∙ sym (rw (first (m (f p) (f p)), row_at_next rank i a (m (f p) (f p)) q b la n0 lq) (set_at_next rank i a (m (f p) (f p)) q b (m (g q) (g q)) la n0 lq))

module _ (cols : List ℕ) (values factor u : List Float) (vertex rank i : ℕ) (l : i * rank + rank ≤ length factor) (n : length u ≡ rank) where
  column_away : (j : ℕ) → j < rank → (e : ℕ) → ((k : ℕ) → k < e → get_or cols k 0 ≡ i → ⊥)
      → column_to cols values (set_row rank factor i u) vertex rank j e ≡ column_to cols values factor vertex rank j e
  unfolding sum_to_column
  column_away j h zero away = refl
  column_away j h (suc e) away =
      rw (column_away j h e (λ k b. away k (omega arith)), get_d_other rank i (get_or cols e 0) j factor u nan l n (away e (omega arith)) h)

  away_from : any_below (length cols) (λ e. eqb (get_or cols e 0) i) ≡ false → (k : ℕ) → k < length cols → get_or cols k 0 ≡ i → ⊥
  away_from none k h e =
      let f : eqb (get_or cols k 0) i ≡ false = below_false (λ e. eqb (get_or cols e 0) i) (length cols) none k h in
      let t : eqb (get_or cols k 0) i ≡ true = eq-eqb (get_or cols k 0) i e in
      let no : ◌≡◌ {A = Bool} true false = sym t ∙ f in
      let zero_one : ◌≡◌ {A = ℕ} 0 1 = cc in
      omega arith

  pub gradient_away : any_below (length cols) (λ e. eqb (get_or cols e 0) i) ≡ false
      → gradient_of cols values (set_row rank factor i u) vertex rank ≡ gradient_of cols values factor vertex rank
  gradient_away none =
      gradient_columns cols values (set_row rank factor i u) vertex rank
      ∙ tabulate_ext _ _ rank (λ j h. column_away j h (length cols) (away_from none))
      ∙ sym (gradient_columns cols values factor vertex rank)

pub gradient_at_away : (cols : List ℕ) (values : List Float) (starts : List ℕ) (factor u : List Float) (rank i : ℕ)
    → i * rank + rank ≤ length factor → length u ≡ rank → meets_next cols starts i ≡ false
    → gradient_at cols values starts rank (set_row rank factor i u) (i + 1) ≡ gradient_at cols values starts rank factor (i + 1)
unfolding gradient_at meets_next
gradient_at_away cols values starts factor u rank i l n none = gradient_away _ _ factor u (i + 1) rank i l n none

length_momentum : (g : List Float) (inv beta : Float) (r : List Float) → length (momentum_row g inv beta r) ≡ length r
unfolding momentum_row
length_momentum g inv beta r = length_map_first _ (length r) r

length_scaled : (by : Float) (r : List Float) → length (scaled by r) ≡ length r
unfolding scaled
length_scaled by r = length_map_first _ (length r) r

pub length_normalized : (r : List Float) → length (normalized r) ≡ length r
unfolding normalized
length_normalized r = length_scaled _ r

-- both rows by the momentum rule, then both divided by their norms
pub momentum_pair : (rank i : ℕ) (g h : List Float) (a b beta : Float) (xs ys zs : List Float)
    → (i + 1) * rank + rank ≤ length xs
    → ys ≡ row_to rank (row_to rank xs i (momentum_row g a beta)) (i + 1) (momentum_row h b beta)
    → zs ≡ row_to rank (row_to rank ys i (scaled (one64 /ᶠ sqrt_of (squared_norm (row_of rank ys i))))) (i + 1) (scaled (one64 /ᶠ sqrt_of (squared_norm (row_of rank ys (i + 1)))))
    → zs ≡ row_to rank (row_to rank xs i (λ r. normalized (momentum_row g a beta r))) (i + 1) (λ r. normalized (momentum_row h b beta r))
unfolding normalized
momentum_pair rank i g h a b beta xs ys zs l ey ez =
    pair_moved rank i (momentum_row g a beta) (momentum_row h b beta) (λ w r. scaled (one64 /ᶠ sqrt_of (squared_norm w)) r) xs ys zs l
    (length_momentum g a beta) (length_momentum h b beta) (λ w r. length_scaled _ r) ey ez

-- what a row becomes where its gradient is large enough and the momentum isn't 0
pub row_moved : (rank : ℕ) (xs : List Float) (i : ℕ) (g : List Float) (norm beta : Float) → wrote norm ≡ true → Ieee.eq beta zero64 ≡ false
    → row_to rank xs i (λ r. normalized (momentum_row g (one64 /ᶠ norm) beta r)) ≡ row_to rank xs i (update_row beta g norm)
unfolding row_to update_row
row_moved rank xs i g norm beta w z = rw (w, z)

-- two rows made anew by their gradients g and h, whose norms are a and b: at once, or one after the other
pub pair_moves : (rank i : ℕ) (g h : List Float) (a b beta : Float) (xs zs : List Float)
    → a ≡ sqrt_of (squared_norm g) → b ≡ sqrt_of (squared_norm h) → (wrote a ≡ true) × (wrote b ≡ true) × (Ieee.eq beta zero64 ≡ false)
    → zs ≡ row_to rank (row_to rank xs i (λ r. normalized (momentum_row g (one64 /ᶠ a) beta r))) (i + 1) (λ r. normalized (momentum_row h (one64 /ᶠ b) beta r))
    → zs ≡ row_by beta h rank (row_by beta g rank xs i) (i + 1)
unfolding row_by
pair_moves rank i g h a b beta xs zs ea eb w e =
    rw (← ea, ← eb)
    (e
    ∙ row_moved rank _ (i + 1) h b beta w.1 w.2
    ∙ ap (λ (t : List Float). row_to rank t (i + 1) (update_row beta h b)) (row_moved rank xs i g a beta w.0 w.2))

length_picked : (s t : Bool) (beta : Float) (g : List Float) (inv : Float) (r : List Float) → length (pick_row s t g inv beta r) ≡ length r
unfolding exact_row
length_picked false t beta g inv r = refl
length_picked true true beta g inv r = length_map_first _ (length r) r
length_picked true false beta g inv r = length_normalized (momentum_row g inv beta r) ∙ length_momentum g inv beta r

pub length_updated : (beta : Float) (g : List Float) (norm : Float) (r : List Float) → length (update_row beta g norm r) ≡ length r
unfolding update_row
length_updated beta g norm r = length_picked (wrote norm) (Ieee.eq beta zero64) beta g (one64 /ᶠ norm) r

-- two rows by gradients that are both of the factor before, where the second doesn't see the first
pub rows_swept : (cols : List ℕ) (values : List Float) (starts : List ℕ) (rank : ℕ) (beta : Float) (xs : List Float) (i : ℕ)
    → i * rank + rank ≤ length xs → meets_next cols starts i ≡ false
    → row_by beta (gradient_at cols values starts rank xs (i + 1)) rank (row_by beta (gradient_at cols values starts rank xs i) rank xs i) (i + 1)
    ≡ swept_row cols values starts rank beta (swept_row cols values starts rank beta xs i) (i + 1)
unfolding swept_row row_by row_to
rows_swept cols values starts rank beta xs i l none =
    rw (gradient_at_away cols values starts xs (update_row beta (gradient_at cols values starts rank xs i) (sqrt_of (squared_norm (gradient_at cols values starts rank xs i))) (row_of rank xs i)) rank i l
    (length_updated _ _ _ (row_of rank xs i) ∙ length_row_of rank i xs l) none)

-- a sweep one row and two rows further
pub sweep_one : (cols : List ℕ) (values : List Float) (starts : List ℕ) (rank : ℕ) (beta : Float) (factor : List Float) (i : ℕ) (xs ys : List Float)
    → xs ≡ sweep_to cols values starts rank beta factor i → ys ≡ swept_row cols values starts rank beta xs i
    → ys ≡ sweep_to cols values starts rank beta factor (i + 1)
unfolding sweep_to up_to
sweep_one cols values starts rank beta factor i xs ys e h = rw (add-one i, ← e) h

pub sweep_two : (cols : List ℕ) (values : List Float) (starts : List ℕ) (rank : ℕ) (beta : Float) (factor : List Float) (i : ℕ) (xs ys : List Float)
    → xs ≡ sweep_to cols values starts rank beta factor i
    → ys ≡ swept_row cols values starts rank beta (swept_row cols values starts rank beta xs i) (i + 1)
    → ys ≡ sweep_to cols values starts rank beta factor (i + 2)
sweep_two cols values starts rank beta factor i xs ys e h =
    let s : i + 2 ≡ i + 1 + 1 = omega arith in
    rw s (sweep_one cols values starts rank beta factor (i + 1) _ ys (sweep_one cols values starts rank beta factor i xs _ e refl) h)
