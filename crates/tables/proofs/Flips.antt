-- Flipping sign i changes the objective of a symmetric square by 4·Q_ii − 4·x_i·(Qx)_i, a multiple of 4.
use mathlib.Core.Path.{◌≡◌, refl, sym, ◌∙◌, ap, ap₂}
use mathlib.Core.Bool.{Bool, true, false, cond}
use Prim.Native.Nat.{ℕ, ◌<◌}
use lib.IntN.{ℤ, pos, negsuc, neg_ℤ, nat_abs, ◌+ℤ◌, ◌-ℤ◌, ◌*ℤ◌, *ℤ_comm, *ℤ-zero, +ℤ_idr}
use lib.Dec.{eqb}
use Rattle.laws.specs.Sum.{sum, sum₂, only}
use Rattle.tables.specs.Table.{Table, InRange, Rising, Mirrored, SignVector, Symmetric, objective_at, objective_of, value_at}
use Rattle.tables.specs.Flip.{flipped, flip_change, flip_share, flip_term}
use Rattle.laws.proofs.Integer.{parts, differences, sorted, ring, square_one, times_one, abs_neg}
use Rattle.laws.proofs.Sums.{sum_ext, sum_add, sum_scale, sum_only, sum₂_ext, sum₂_add, sum₂_swap}
use Rattle.tables.proofs.Places.{only_mul, only_sum, over_places}
use Rattle.tables.proofs.Quadratic.{quadratic, objective_places}
use Rattle.tables.proofs.Mirrors.{mirrored_symmetric}

pub only_right : (a b : ℕ) (q w : ℤ) → q *ℤ only a b w ≡ only a b (q *ℤ w)
only_right a b q w = go (eqb a b)
  where
    go : (s : Bool) → q *ℤ cond s w (pos 0) ≡ cond s (q *ℤ w) (pos 0)
    go true = refl
    go false = *ℤ-zero q

only_times : (a b : ℕ) (q v w : ℤ) → q *ℤ (only a b v *ℤ w) ≡ only a b (q *ℤ (v *ℤ w))
only_times a b q v w = rw (only_mul a b v w) (only_right a b q (v *ℤ w))

-- one row alone
pub one_row : (m i : ℕ) (f : ℕ → ℕ → ℤ) → i < m → sum₂ m (λ a b. only i a (f a b)) ≡ sum m (f i)
unfolding sum₂
one_row m i f h = sum_ext m _ _ (λ a k. only_sum m i a (f a)) ∙ sum_only m i (λ a. sum m (f a)) h

-- the four terms of a product of sums
pub expanded : (q a b c d : ℤ) → q *ℤ ((a +ℤ b) *ℤ (c +ℤ d)) ≡ q *ℤ (a *ℤ c) +ℤ q *ℤ (b *ℤ c) +ℤ (q *ℤ (b *ℤ d) +ℤ q *ℤ (d *ℤ a))
expanded q a b c d = simp sorted

module _ (m : ℕ) (q : ℕ → ℕ → ℤ) (x : ℕ → ℤ) (i : ℕ) (h : i < m) (sy : Symmetric m q) (sv : SignVector x) where
  -- what is added to sign j
  step : ℕ → ℤ
  step j = only i j (negsuc 1 *ℤ x j)

  flipped_is : (j : ℕ) → flipped x i j ≡ x j +ℤ step j
  unfolding flipped step
  flipped_is j = go (eqb i j)
    where
      go : (t : Bool) → cond t (neg_ℤ (x j)) (x j) ≡ x j +ℤ cond t (negsuc 1 *ℤ x j) (pos 0)
      go true = rw (parts (x j)) (simp differences (omega ring))
      go false = sym (+ℤ_idr (x j))

  pub flipped_signs : SignVector (flipped x i)
  unfolding flipped
  flipped_signs = record { unit = λ j. go j (eqb i j) }
    where
      go : (j : ℕ) (t : Bool) → nat_abs (cond t (neg_ℤ (x j)) (x j)) ≡ 1
      go j true = abs_neg (x j) ∙ sv.unit j
      go j false = sv.unit j

  -- one sign's step against the other signs, and against itself
  once : sum₂ m (λ a b. q a b *ℤ (step a *ℤ x b)) ≡ negsuc 1 *ℤ x i *ℤ sum m (λ b. q i b *ℤ x b)
  unfolding step
  once =
      sum₂_ext m _ _ (λ a b k l. only_times i a (q a b) (negsuc 1 *ℤ x a) (x b))
      ∙ one_row m i (λ a b. q a b *ℤ (negsuc 1 *ℤ x a *ℤ x b)) h
      ∙ sum_ext m _ _ (λ b k. regroup (q i b) (x i) (x b)) ∙ sum_scale m (negsuc 1 *ℤ x i) (λ b. q i b *ℤ x b)
    where
      regroup : (p y z : ℤ) → p *ℤ (negsuc 1 *ℤ y *ℤ z) ≡ negsuc 1 *ℤ y *ℤ (p *ℤ z)
      regroup p y z = rw (parts p, parts y, parts z) (simp differences (omega ring))

  twice : sum₂ m (λ a b. q a b *ℤ (step a *ℤ step b)) ≡ pos 4 *ℤ q i i
  unfolding step
  twice =
      sum₂_ext m _ _ (λ a b k l. only_times i a (q a b) (negsuc 1 *ℤ x a) (step b))
      ∙ one_row m i (λ a b. q a b *ℤ (negsuc 1 *ℤ x a *ℤ step b)) h
      ∙ sum_ext m _ _ (λ b k. ap (λ z. q i b *ℤ z) (*ℤ_comm (negsuc 1 *ℤ x i) (step b)) ∙ only_times i b (q i b) (negsuc 1 *ℤ x b) (negsuc 1 *ℤ x i))
      ∙ sum_only m i (λ b. q i b *ℤ (negsuc 1 *ℤ x b *ℤ (negsuc 1 *ℤ x i))) h
      ∙ regroup (q i i) (x i) ∙ rw (square_one (x i) (sv.unit i)) (times_one (pos 4 *ℤ q i i))
    where
      regroup : (p y : ℤ) → p *ℤ (negsuc 1 *ℤ y *ℤ (negsuc 1 *ℤ y)) ≡ pos 4 *ℤ p *ℤ (y *ℤ y)
      regroup p y = rw (parts p, parts y) (simp differences (omega ring))

  mirrored : sum₂ m (λ a b. q a b *ℤ (step b *ℤ x a)) ≡ negsuc 1 *ℤ x i *ℤ sum m (λ b. q i b *ℤ x b)
  mirrored =
      sum₂_ext m _ _ (λ a b k l. rw (sy.mirror a b k l)) ∙ sum₂_swap m (λ a b. q a b *ℤ (step a *ℤ x b)) ∙ once

  -- the theorem
  pub flip_change_lem : objective_at m q (flipped x i) ≡ objective_at m q x +ℤ flip_change m q x i
  unfolding flip_change
  flip_change_lem =
      quadratic m q (flipped x i) sy flipped_signs
      ∙ sum₂_ext m _ _ (λ a b k l. rw (flipped_is a, flipped_is b) (expanded (q a b) (x a) (step a) (x b) (step b)))
      ∙ sum₂_add m _ _ ∙ ap₂ ◌+ℤ◌ (sum₂_add m _ _) (sum₂_add m _ _)
      ∙ ap₂ ◌+ℤ◌ (ap₂ ◌+ℤ◌ (sym (quadratic m q x sy sv)) once) (ap₂ ◌+ℤ◌ twice mirrored)
      ∙ collect (objective_at m q x) (q i i) (x i) (sum m (λ b. q i b *ℤ x b))
    where
      collect : (o p y s : ℤ) → o +ℤ negsuc 1 *ℤ y *ℤ s +ℤ (pos 4 *ℤ p +ℤ negsuc 1 *ℤ y *ℤ s) ≡ o +ℤ (pos 4 *ℤ p -ℤ pos 4 *ℤ (y *ℤ s))
      collect o p y s = rw (parts o, parts p, parts y, parts s) (simp differences (omega ring))

-- it is a multiple of 4
pub flip_four : (m : ℕ) (q : ℕ → ℕ → ℤ) (x : ℕ → ℤ) (i : ℕ) → flip_change m q x i ≡ pos 4 *ℤ (q i i -ℤ x i *ℤ sum m (λ j. q i j *ℤ x j))
unfolding flip_change
flip_four m q x i = four (q i i) (x i *ℤ sum m (λ j. q i j *ℤ x j))
  where
    four : (a b : ℤ) → pos 4 *ℤ a -ℤ pos 4 *ℤ b ≡ pos 4 *ℤ (a -ℤ b)
    four a b = rw (parts a, parts b) (simp differences (omega ring))

-- ---- the change, summed over a table's entries

module _ {m : ℕ} {t : Table} (r : InRange m t) (x : ℕ → ℤ) (i : ℕ) (h : i < m) (sv : SignVector x) where
  -- what an entry of row i is multiplied by
  factor : ℕ → ℤ
  factor j = cond (eqb i j) (pos 0) (negsuc 3 *ℤ (x i *ℤ x j))

  share_factor : (a j : ℕ) (v : ℤ) → flip_share i a j (x i) (x j) v ≡ v *ℤ only i a (factor j)
  unfolding flip_share factor
  share_factor a j v = go (eqb i a) (eqb i j)
    where
      go : (s u : Bool) → cond s (cond u (pos 0) (negsuc 3 *ℤ v *ℤ x i *ℤ x j)) (pos 0) ≡ v *ℤ cond s (cond u (pos 0) (negsuc 3 *ℤ (x i *ℤ x j))) (pos 0)
      go true true = sym (*ℤ-zero v)
      go true false = rw (parts v, parts (x i), parts (x j)) (simp differences (omega ring))
      go false u = sym (*ℤ-zero v)

  in_row : (q : ℤ) (j : ℕ) → q *ℤ factor j ≡ negsuc 3 *ℤ x i *ℤ (q *ℤ x j) +ℤ only i j (pos 4 *ℤ q *ℤ (x i *ℤ x j))
  unfolding factor
  in_row q j = go (eqb i j)
    where
      go : (s : Bool) → q *ℤ cond s (pos 0) (negsuc 3 *ℤ (x i *ℤ x j)) ≡ negsuc 3 *ℤ x i *ℤ (q *ℤ x j) +ℤ cond s (pos 4 *ℤ q *ℤ (x i *ℤ x j)) (pos 0)
      go true = rw (parts q, parts (x i), parts (x j)) (simp differences (omega ring))
      go false = rw (parts q, parts (x i), parts (x j)) (simp differences (omega ring))

  pub flip_entries : sum t.count (flip_term t x i) ≡ flip_change m (value_at t) x i
  unfolding flip_change
  flip_entries =
      sum_ext t.count _ _ (λ k l. share_factor (t.row k) (t.column k) (t.value k))
      ∙ over_places r (λ a j. only i a (factor j))
      ∙ sum₂_ext m _ _ (λ a j k l. only_right i a (q a j) (factor j))
      ∙ one_row m i (λ a j. q a j *ℤ factor j) h
      ∙ sum_ext m _ _ (λ j l. in_row (q i j) j)
      ∙ sum_add m (λ j. negsuc 3 *ℤ x i *ℤ (q i j *ℤ x j)) (λ j. only i j (pos 4 *ℤ q i j *ℤ (x i *ℤ x j)))
      ∙ ap₂ ◌+ℤ◌ (sum_scale m (negsuc 3 *ℤ x i) (λ j. q i j *ℤ x j)) (sum_only m i (λ j. pos 4 *ℤ q i j *ℤ (x i *ℤ x j)) h)
      ∙ rw (square_one (x i) (sv.unit i), times_one (pos 4 *ℤ q i i)) (collect (x i) (sum m (λ j. q i j *ℤ x j)) (q i i))
    where
      q : ℕ → ℕ → ℤ
      q = value_at t

      collect : (y s p : ℤ) → negsuc 3 *ℤ y *ℤ s +ℤ pos 4 *ℤ p ≡ pos 4 *ℤ p -ℤ pos 4 *ℤ (y *ℤ s)
      collect y s p = rw (parts y, parts s, parts p) (simp differences (omega ring))

-- ---- of a table

-- sign i flipped
pub objective_flipped : {m : ℕ} {t : Table} → InRange m t → Rising t → Mirrored t → (x : ℕ → ℤ) → SignVector x → (i : ℕ) → i < m
    → objective_of t (flipped x i) ≡ objective_of t x +ℤ flip_change m (value_at t) x i
objective_flipped {m} {t} r ri mi x sv i h =
    objective_places r (flipped x i) ∙ flip_change_lem m (value_at t) x i h (mirrored_symmetric ri mi m) sv
    ∙ ap (λ z. z +ℤ flip_change m (value_at t) x i) (sym (objective_places r x))
