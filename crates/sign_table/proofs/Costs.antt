-- The objective of the sign table at signs x is eight times the cost of what they decode to.
use mathlib.Core.Path.{◌≡◌, refl, sym, ◌∙◌, ap, ap₂}
use mathlib.Core.List.{List}
use mathlib.Core.Bool.{Bool, true, false, cond}
use Prim.Native.Nat.{ℕ, zero, suc, ◌<◌}
use native.Mathlib.Decide.{ℕ_discrete}
use native.Mathlib.Omega.{arith}
use Rattle.laws.specs.Lists.{elem}
use lib.IntN.{ℤ, pos, negsuc, neg_ℤ, ◌+ℤ◌, ◌-ℤ◌, ◌*ℤ◌, *ℤ_comm}
use borrow.Author.Tests.{eq-eqb, ne_eqb}
use Rattle.laws.specs.Sum.{sum, sum₂, only}
use Rattle.tables.specs.Table.{sign, sign_at, same_sign, objective_at, SignVector, Symmetric}
use Rattle.tables.specs.Cost.{cost_eighths, decoded_byte, decoded}
use Rattle.sign_table.specs.SignTable.{absorbed, sign_value}
use Rattle.laws.proofs.Integer.{parts, differences, ring, square_one, times_one, add_mul}
use Rattle.laws.proofs.Sums.{sum_ext, sum_add, sum_scale, sum_only, sum₂_ext, sum₂_add, sum₂_scale, sum₂_swap}
use Rattle.tables.proofs.Places.{only_mul}
use Rattle.tables.proofs.Shares.{sign_vector}
use Rattle.tables.proofs.Quadratic.{quadratic}

-- a square of one more row and column
sum₂_suc : (n : ℕ) (f : ℕ → ℕ → ℤ) → sum₂ (suc n) f ≡ sum₂ n f +ℤ sum n (λ i. f i n) +ℤ (sum n (λ j. f n j) +ℤ f n n)
unfolding sum₂ sum
sum₂_suc n f = ap (λ z. z +ℤ (sum n (f n) +ℤ f n n)) (sum_add n (λ i. sum n (f i)) (λ i. f i n))

-- ---- the sign table's values
module _ (n : ℕ) (H : ℕ → ℕ → ℤ) where
  pub inner : (i j : ℕ) → i < n → j < n → sign_value n H i j ≡ H i j
  unfolding sign_value
  inner i j h k = rw (ne_eqb i n (λ e. omega arith), ne_eqb j n (λ e. omega arith))

  pub column : (i : ℕ) → i < n → sign_value n H i n ≡ neg_ℤ (sum n (H i))
  unfolding sign_value
  column i h = rw (ne_eqb i n (λ e. omega arith), eq-eqb n n refl)

  pub row : (j : ℕ) → j < n → sign_value n H n j ≡ neg_ℤ (sum n (H j))
  unfolding sign_value
  row j h = rw (ne_eqb j n (λ e. omega arith), eq-eqb n n refl)

  pub corner : sign_value n H n n ≡ sum₂ n H
  unfolding sign_value
  corner = rw (eq-eqb n n refl)

  pub sign_symmetric : Symmetric n H → Symmetric (suc n) (sign_value n H)
  sign_symmetric sy = record { mirror = λ i j h k. go i j h k (ℕ_discrete i n) (ℕ_discrete j n) }
    where
      go : (i j : ℕ) → i < suc n → j < suc n → Dec (i ≡ n) → Dec (j ≡ n) → sign_value n H i j ≡ sign_value n H j i
      go i j h k (yes e) (yes d) = rw (e, d)
      go i j h k (yes e) (no d) = rw e (row j (omega arith) ∙ sym (column j (omega arith)))
      go i j h k (no e) (yes d) = rw d (column i (omega arith) ∙ sym (row i (omega arith)))
      go i j h k (no e) (no d) = inner i j (omega arith) (omega arith) ∙ sy.mirror i j (omega arith) (omega arith) ∙ sym (inner j i (omega arith) (omega arith))

-- ---- the identity at a place
times_sum : (n : ℕ) (f : ℕ → ℤ) (s : ℤ) → neg_ℤ (sum n f) *ℤ s ≡ sum n (λ j. negsuc 0 *ℤ s *ℤ f j)
times_sum n f s =
    rw (sum_scale n (negsuc 0 *ℤ s) f, parts (sum n f), parts s) (simp differences (omega ring))

-- two signs by way of the anchor's, z
anchored : (x y z : ℤ) → z *ℤ z ≡ pos 1 → x *ℤ y ≡ x *ℤ z *ℤ (y *ℤ z)
anchored x y z e =
    sym (times_one (x *ℤ y)) ∙ ap (λ s. x *ℤ y *ℤ s) (sym e)
    ∙ rw (parts x, parts y, parts z) (simp differences (omega ring))

factored : (h p q : ℤ) → h *ℤ (p *ℤ q) +ℤ negsuc 0 *ℤ p *ℤ h +ℤ (negsuc 0 *ℤ q *ℤ h +ℤ h) ≡ h *ℤ ((pos 1 -ℤ p) *ℤ (pos 1 -ℤ q))
factored h p q = rw (parts h, parts p, parts q) (simp differences (omega ring))

doubled : (h a b : ℤ) → h *ℤ ((pos 2 *ℤ a) *ℤ (pos 2 *ℤ b)) ≡ pos 4 *ℤ (h *ℤ (a *ℤ b))
doubled h a b = rw (parts h, parts a, parts b) (simp differences (omega ring))

-- ---- an absorbed table: the objective is four times the sum of H_ij·b_i·b_j
module _ (n : ℕ) (H : ℕ → ℕ → ℤ) (x b : ℕ → ℤ) (sy : Symmetric n H) (sv : SignVector x)
    (decodes : (i : ℕ) → i < n → pos 2 *ℤ b i ≡ pos 1 -ℤ x i *ℤ x n) where
  -- the last column as a sum over the square, and the last row, which is its mirror image
  last_column : sum n (λ i. sign_value n H i n *ℤ (x i *ℤ x n)) ≡ sum₂ n (λ i j. negsuc 0 *ℤ (x i *ℤ x n) *ℤ H i j)
  unfolding sum₂
  last_column = sum_ext n _ _ (λ i h. rw (column n H i h) (times_sum n (H i) (x i *ℤ x n)))

  last_row : sum n (λ j. sign_value n H n j *ℤ (x n *ℤ x j)) ≡ sum₂ n (λ i j. negsuc 0 *ℤ (x j *ℤ x n) *ℤ H i j)
  last_row =
      sum_ext n _ _ (λ j h. rw (row n H j h, ← (column n H j h), *ℤ_comm (x n) (x j)))
      ∙ last_column
      ∙ sym (sum₂_swap n (λ i j. negsuc 0 *ℤ (x i *ℤ x n) *ℤ H i j))
      ∙ sum₂_ext n _ _ (λ i j h k. rw (sy.mirror j i k h))

  last_corner : sign_value n H n n *ℤ (x n *ℤ x n) ≡ sum₂ n H
  last_corner = rw (corner n H, square_one (x n) (sv.unit n)) (times_one (sum₂ n H))

  at_place : (i j : ℕ) → i < n → j < n
      → H i j *ℤ (x i *ℤ x j) +ℤ negsuc 0 *ℤ (x i *ℤ x n) *ℤ H i j +ℤ (negsuc 0 *ℤ (x j *ℤ x n) *ℤ H i j +ℤ H i j) ≡ pos 4 *ℤ (H i j *ℤ (b i *ℤ b j))
  at_place i j h k =
      rw (anchored (x i) (x j) (x n) (square_one (x n) (sv.unit n)))
      (factored (H i j) (x i *ℤ x n) (x j *ℤ x n) ∙ rw (← (decodes i h), ← (decodes j k)) (doubled (H i j) (b i) (b j)))

  pub sign_objective : objective_at (suc n) (sign_value n H) x ≡ pos 4 *ℤ sum₂ n (λ i j. H i j *ℤ (b i *ℤ b j))
  sign_objective =
      quadratic (suc n) (sign_value n H) x (sign_symmetric n H sy) sv
      ∙ sum₂_suc n (λ i j. sign_value n H i j *ℤ (x i *ℤ x j))
      ∙ ap₂ ◌+ℤ◌ (ap₂ ◌+ℤ◌ (sum₂_ext n _ (λ i j. H i j *ℤ (x i *ℤ x j)) (λ i j h k. rw (inner n H i j h k))) last_column) (ap₂ ◌+ℤ◌ last_row last_corner)
      ∙ sym (sum₂_add n _ _ ∙ ap₂ ◌+ℤ◌ (sum₂_add n _ _) (sum₂_add n _ _))
      ∙ sum₂_ext n _ _ at_place
      ∙ sum₂_scale n (pos 4) (λ i j. H i j *ℤ (b i *ℤ b j))

-- ---- the linear costs
module _ (n : ℕ) (H : ℕ → ℕ → ℤ) (c : ℕ → ℤ) where
  pub absorbed_symmetric : Symmetric n H → Symmetric n (absorbed H c)
  unfolding absorbed
  absorbed_symmetric sy = record { mirror = λ i j h k. ap₂ ◌+ℤ◌ (sy.mirror i j h k) (go i j (ℕ_discrete i j)) }
    where
      go : (i j : ℕ) → Dec (i ≡ j) → only i j (pos 2 *ℤ c i) ≡ only j i (pos 2 *ℤ c j)
      go i j (yes e) = rw e
      go i j (no d) = rw (ne_eqb i j d, ne_eqb j i (λ e. d (sym e)))

  -- the diagonal alone
  on_diagonal_lem : (g : ℕ → ℕ → ℤ) → sum₂ n (λ i j. only i j (pos 2 *ℤ c i) *ℤ g i j) ≡ sum n (λ i. pos 2 *ℤ c i *ℤ g i i)
  unfolding sum₂
  on_diagonal_lem g = sum_ext n _ _ (λ i h.
      sum_ext n _ (λ j. only i j (pos 2 *ℤ c i *ℤ g i j)) (λ j k. only_mul i j (pos 2 *ℤ c i) (g i j))
      ∙ sum_only n i (λ j. pos 2 *ℤ c i *ℤ g i j) h)

  absorbed_cost : (b : ℕ → ℤ) → ((i : ℕ) → b i *ℤ b i ≡ b i) → pos 4 *ℤ sum₂ n (λ i j. absorbed H c i j *ℤ (b i *ℤ b j)) ≡ cost_eighths n H c b
  unfolding absorbed cost_eighths
  absorbed_cost b bit =
      ap (λ s. pos 4 *ℤ s)
      (sum₂_ext n _ _ (λ i j h k. add_mul (H i j) (only i j (pos 2 *ℤ c i)) (b i *ℤ b j))
      ∙ sum₂_add n (λ i j. H i j *ℤ (b i *ℤ b j)) (λ i j. only i j (pos 2 *ℤ c i) *ℤ (b i *ℤ b j))
      ∙ ap (λ s. sum₂ n (λ i j. H i j *ℤ (b i *ℤ b j)) +ℤ s)
      (on_diagonal_lem (λ i j. b i *ℤ b j)
      ∙ sum_ext n _ _ (λ i h. rw (bit i) (twice_product (c i) (b i))) ∙ sum_scale n (pos 2) (λ i. c i *ℤ b i)))
      ∙ eight (sum₂ n (λ i j. H i j *ℤ (b i *ℤ b j))) (sum n (λ i. c i *ℤ b i))
    where
      twice_product : (a d : ℤ) → pos 2 *ℤ a *ℤ d ≡ pos 2 *ℤ (a *ℤ d)
      twice_product a d = rw (parts a, parts d) (simp differences (omega ring))

      eight : (a d : ℤ) → pos 4 *ℤ (a +ℤ pos 2 *ℤ d) ≡ pos 4 *ℤ a +ℤ pos 8 *ℤ d
      eight a d = rw (parts a, parts d) (simp differences (omega ring))

-- ---- decoding
module _ (n : ℕ) (signs : List ℕ) where
  pub decodes : (i : ℕ) → pos 2 *ℤ decoded n signs i ≡ pos 1 -ℤ sign_at signs i *ℤ sign_at signs n
  unfolding decoded_byte
  decodes i = go (elem signs i) (elem signs n)
    where
      go : (s t : ℕ) → pos 2 *ℤ pos (cond (same_sign s t) 0 1) ≡ pos 1 -ℤ sign s *ℤ sign t
      go zero zero = refl
      go zero (suc t) = refl
      go (suc s) zero = refl
      go (suc s) (suc t) = refl

  pub decoded_bit : (i : ℕ) → decoded n signs i *ℤ decoded n signs i ≡ decoded n signs i
  unfolding decoded_byte
  decoded_bit i = go (same_sign (elem signs i) (elem signs n))
    where
      go : (t : Bool) → pos (cond t 0 1) *ℤ pos (cond t 0 1) ≡ pos (cond t 0 1)
      go true = refl
      go false = refl

  -- the theorem: the sign table's objective at signs is the cost of what they decode to, in eighths
  pub objective_is_cost : (H : ℕ → ℕ → ℤ) (c : ℕ → ℤ) → Symmetric n H
      → objective_at (suc n) (sign_value n (absorbed H c)) (sign_at signs) ≡ cost_eighths n H c (decoded n signs)
  objective_is_cost H c sy =
      sign_objective n (absorbed H c) (sign_at signs) (decoded n signs) (absorbed_symmetric n H c sy) (sign_vector signs) (λ i h. decodes i)
      ∙ absorbed_cost n H c (decoded n signs) decoded_bit
