-- A table that is listed place by place has the objective of its square: what is not stored is 0.
use mathlib.Core.Path.{◌≡◌, refl, sym, ◌∙◌, ap, ap₂}
use mathlib.Core.List.{List, [], ◌∷◌, ◌++◌}
use mathlib.Core.Bool.{Bool, true, false, not, cond}
use Prim.Native.Nat.{ℕ, zero, suc, ◌+◌, ◌<◌}
use native.Mathlib.Nat.{zero-add, add-zero}
use native.Mathlib.Decide.{ℕ_discrete}
use native.Mathlib.Omega.{arith}
use lib.ListN.{length}
use lib.Dec.{eqb, ltb}
use lib.IntN.{ℤ, pos, negsuc, neg_ℤ, ◌+ℤ◌, ◌*ℤ◌, +ℤ_idl, +ℤ_idr, +ℤ_assoc, zero-*ℤ}
use borrow.Author.Tests.{eqb-true, eq-eqb, ne_eqb, not-false}
use Rattle.laws.specs.Sum.{sum, sum₂}
use Rattle.tables.specs.Table.{Table, value_at, stored_at, share, objective_term, objective_of, objective_at, sign_at, Symmetric}
use Rattle.tables.specs.Cost.{cost_eighths, decoded}
use Rattle.sign_table.specs.SignTable.{absorbed, sign_value, edge, row_places, places, is_zero, sign_kept, kept_of, sign_of, sign_places, sign_table, stored_table}
use Rattle.laws.proofs.Sums.{sum_ext}
use Rattle.tables.proofs.Mirrors.{unstored_zero}
use Rattle.sign_table.proofs.Costs.{inner, column, row, objective_is_cost}

-- the sum of f over a list
pub sum_over : List (ℕ × ℕ) → (ℕ × ℕ → ℤ) → ℤ
sum_over [] f = pos 0
sum_over (p ∷ ps) f = f p +ℤ sum_over ps f

sum_over_append : (ps qs : List (ℕ × ℕ)) (f : ℕ × ℕ → ℤ) → sum_over (ps ++ qs) f ≡ sum_over ps f +ℤ sum_over qs f
unfolding sum_over
sum_over_append [] qs f = sym (+ℤ_idl _)
sum_over_append (p ∷ ps) qs f = rw (sum_over_append ps qs f) (sym (+ℤ_assoc (f p) (sum_over ps f) (sum_over qs f)))

-- a sum that counts from the front
sum_front : (n : ℕ) (f : ℕ → ℤ) → sum (suc n) f ≡ f 0 +ℤ sum n (λ k. f (suc k))
unfolding sum
sum_front zero f = rw (+ℤ_idl (f 0), +ℤ_idr (f 0))
sum_front (suc n) f = ap (λ z. z +ℤ f (suc n)) (sum_front n f) ∙ +ℤ_assoc (f 0) (sum n (λ k. f (suc k))) (f (suc n))

module _ (keep : ℕ → ℕ → Bool) (f : ℕ × ℕ → ℤ) where
  row_sum : (i j d : ℕ) → sum_over (row_places keep i j d) f ≡ sum d (λ x. cond (keep i (j + x)) (f (i, j + x)) (pos 0))
  unfolding row_places sum sum_over
  row_sum i j zero = refl
  row_sum i j (suc d) =
      sum_over_append (edge (keep i j) i j) (row_places keep i (suc j) d) f
      ∙ ap₂ ◌+ℤ◌ (go (keep i j)) (row_sum i (suc j) d)
      ∙ sym (sum_front d (λ x. cond (keep i (j + x)) (f (i, j + x)) (pos 0)) ∙ rw (add-zero j) (ap (λ z. cond (keep i j) (f (i, j)) (pos 0) +ℤ z) (sum_ext d _ _ (λ x h. rw (shift x)))))
    where
      shift : (x : ℕ) → j + suc x ≡ suc j + x
      shift x = omega arith

      go : (t : Bool) → sum_over (edge t i j) f ≡ cond t (f (i, j)) (pos 0)
      go true = +ℤ_idr (f (i, j))
      go false = refl

  pub places_sum : (m n : ℕ) → sum_over (places keep m n) f ≡ sum n (λ i. sum m (λ j. cond (keep i j) (f (i, j)) (pos 0)))
  unfolding places sum sum_over
  places_sum m zero = refl
  places_sum m (suc n) =
      sum_over_append (places keep m n) (row_places keep n 0 m) f ∙ ap₂ ◌+ℤ◌ (places_sum m n) (row_sum n 0 m ∙ sum_ext m _ _ (λ x h. rw (zero-add x)))

-- the objective of entries at listed places
listed_sum : (q : ℕ → ℕ → ℤ) (x : ℕ → ℤ) (ps : List (ℕ × ℕ)) → objective_of (stored_table q ps) x ≡ sum_over ps (λ p. share p.0 p.1 (x p.0) (x p.1) (q p.0 p.1))
unfolding sum_over sum
listed_sum q x [] = refl
listed_sum q x (p ∷ ps) =
    sum_front (length ps) (objective_term (stored_table q (p ∷ ps)) x)
    ∙ ap (λ z. share p.0 p.1 (x p.0) (x p.1) (q p.0 p.1) +ℤ z) (listed_sum q x ps)

share_zero : (i j : ℕ) (x y : ℤ) → share i j x y (pos 0) ≡ pos 0
unfolding share
share_zero i j x y = go (eqb i j) (ltb i j)
  where
    go : (s t : Bool) → cond s (pos 0) (cond t (pos 2 *ℤ pos 0 *ℤ x *ℤ y) (pos 0)) ≡ pos 0
    go true t = refl
    go false true = ap (λ z. z *ℤ y) (zero-*ℤ x) ∙ zero-*ℤ y
    go false false = refl

pub objective_listed : (keep : ℕ → ℕ → Bool) (q : ℕ → ℕ → ℤ) (m : ℕ) (x : ℕ → ℤ)
    → ((i j : ℕ) → i < m → j < m → keep i j ≡ false → q i j ≡ pos 0)
    → objective_of (stored_table q (places keep m m)) x ≡ objective_at m q x
unfolding objective_at sum₂
objective_listed keep q m x zeros =
    listed_sum q x (places keep m m)
    ∙ places_sum keep (λ p. share p.0 p.1 (x p.0) (x p.1) (q p.0 p.1)) m m
    ∙ sum_ext m _ _ (λ i h. sum_ext m _ _ (λ j k. go i j (keep i j) (zeros i j h k)))
  where
    go : (i j : ℕ) (t : Bool) → (t ≡ false → q i j ≡ pos 0) → cond t (share i j (x i) (x j) (q i j)) (pos 0) ≡ share i j (x i) (x j) (q i j)
    go i j true z = refl
    go i j false z = rw (z refl) (sym (share_zero i j (x i) (x j)))

-- ---- what the sign table does not store is 0

zero_of : (z : ℤ) → is_zero z ≡ true → z ≡ pos 0
zero_of (pos n) e = ap pos (eqb-true n 0 e)
zero_of (negsuc n) e = absurd (omega (arith, eqb-true (suc n) 0 e))

module _ (n : ℕ) (kept : ℕ → ℕ → Bool) (H : ℕ → ℕ → ℤ) (c : ℕ → ℤ) (zeros : (i j : ℕ) → i < n → j < n → kept i j ≡ false → H i j ≡ pos 0) where
  absorbed_zero : (i j : ℕ) → i < n → j < n → cond (kept i j) true (cond (eqb i j) (not (is_zero (c i))) false) ≡ false → absorbed H c i j ≡ pos 0
  unfolding absorbed
  absorbed_zero i j h k = go (kept i j) (eqb i j) (zeros i j h k)
    where
      go : (s t : Bool) → (s ≡ false → H i j ≡ pos 0) → cond s true (cond t (not (is_zero (c i))) false) ≡ false → H i j +ℤ cond t (pos 2 *ℤ c i) (pos 0) ≡ pos 0
      go true t z e = cc
      go false true z e = rw (z refl, zero_of (c i) (not-false (is_zero (c i)) e))
      go false false z e = rw (z refl)

  pub sign_zero : (i j : ℕ) → i < suc n → j < suc n → sign_kept n kept H c i j ≡ false → sign_value n (absorbed H c) i j ≡ pos 0
  unfolding sign_kept
  sign_zero i j h k = go (ℕ_discrete i n) (ℕ_discrete j n)
    where
      sums : (l : ℕ) → not (is_zero (sum n (absorbed H c l))) ≡ false → neg_ℤ (sum n (absorbed H c l)) ≡ pos 0
      sums l e = rw (zero_of (sum n (absorbed H c l)) (not-false _ e))

      go : Dec (i ≡ n) → Dec (j ≡ n) → sign_kept n kept H c i j ≡ false → sign_value n (absorbed H c) i j ≡ pos 0
      go (yes e) (yes d) = rw (e, d, eq-eqb n n refl) (λ t. cc)
      go (yes e) (no d) = rw (e, eq-eqb n n refl, ne_eqb j n d) (λ t. row n (absorbed H c) j (omega arith) ∙ sums j t)
      go (no e) (yes d) = rw (d, eq-eqb n n refl, ne_eqb i n e) (λ t. column n (absorbed H c) i (omega arith) ∙ sums i t)
      go (no e) (no d) = rw (ne_eqb i n e, ne_eqb j n d) (λ t. inner n (absorbed H c) i j (omega arith) (omega arith) ∙ absorbed_zero i j (omega arith) (omega arith) t)

-- the theorem: the objective of the sign table at signs is the cost of what they decode to, in eighths
pub table_objective_is_cost : (n : ℕ) (h : Table) (c : ℕ → ℤ) (signs : List ℕ) → Symmetric n (value_at h)
    → objective_of (sign_table n h c) (sign_at signs) ≡ cost_eighths n (value_at h) c (decoded n signs)
unfolding sign_places
table_objective_is_cost n h c signs sy =
    objective_listed (kept_of n h c) (sign_of n h c) (suc n) (sign_at signs) (sign_zero n (stored_at h) (value_at h) c (λ i j a b e. unstored_zero h i j e))
    ∙ objective_is_cost n signs (value_at h) c sy
