-- What setting one digit adds to the cost of a choice, and to what the other digits add.
--     set_cost, set_gain      of any choice
--     digit_grows, digit_shifts, cost_small, zero_cost, zero_gain    of the choices by number, of an accepted (H, c)
-- Assumes nothing.
use mathlib.Core.Path.{◌≡◌, sym, ap, ap₂, ◌∙◌}
use mathlib.Core.Bool.{Bool, true, false, cond}
use Prim.Native.Nat.{ℕ, ◌+◌, ◌*◌, ◌<◌, ◌≤◌}
use native.Mathlib.Decide.{ℕ_discrete}
use native.Mathlib.Omega.{arith}
use borrow.Author.Tests.{eq-eqb, ne_eqb}
use lib.Dec.{eqb}
use lib.IntN.{ℤ, pos, nat_abs, ◌+ℤ◌, ◌*ℤ◌, *ℤ_comm, *ℤ-zero, zero-*ℤ, +ℤ_idr}
use Rattle.laws.specs.Sum.{sum, sum₂, total, only}
use Rattle.std.proofs.lemmas.Int.{unsigned_abs-mul}
use Rattle.laws.proofs.Integer.{parts, differences, ring, mul_add, abs_add, times_one}
use Rattle.laws.proofs.Sums.{sum_ext, sum_add, sum_zero, sum_only, sum_bounded, sum₂_ext, sum₂_add, sum₂_swap, sum₂_zero}
use Rattle.limits.specs.Limits.{most_magnitude, most_sign_magnitude}
use Rattle.tables.specs.Table.{Table, Symmetric, InRange, magnitude_of, value_at}
use Rattle.tables.specs.Cost.{cost_eighths, cost_term, linear_term, bit, choice_at}
use Rattle.tables.specs.Check.{hall_magnitude}
use Rattle.tables.proofs.Flips.{one_row, expanded}
use Rattle.tables.proofs.Choices.{cost_ext, cost_entries, cost_abs, linear_abs}
use Rattle.std.specs.Int.{bit_at}
use Rattle.std.proofs.lemmas.Nat.Bits.{bit_at-zero}
use Rattle.exhaustive.specs.Choices.{digits_of, walk_cost}
use Rattle.exhaustive.proofs.Digits.{clear, raised, digit_clear, digit_set, digit_other, at_digit}

only_times : (a b : ℕ) (q w : ℤ) → q *ℤ (only a b (pos 1) *ℤ w) ≡ only a b (q *ℤ w)
only_times a b q w = go (eqb a b)
  where
    go : (t : Bool) → q *ℤ (cond t (pos 1) (pos 0) *ℤ w) ≡ cond t (q *ℤ w) (pos 0)
    go true = ap (λ z. q *ℤ z) (*ℤ_comm (pos 1) w ∙ times_one w)
    go false = rw (zero-*ℤ w) (*ℤ-zero q)

only_right : (a b : ℕ) (q : ℤ) → q *ℤ only a b (pos 1) ≡ only a b q
only_right a b q = go (eqb a b)
  where
    go : (t : Bool) → q *ℤ cond t (pos 1) (pos 0) ≡ cond t q (pos 0)
    go true = times_one q
    go false = *ℤ-zero q

-- ---- of any choice

module _ (n : ℕ) (H : ℕ → ℕ → ℤ) (c : ℕ → ℤ) where
  -- what setting wagon j adds to the cost of b, which hasn't set it
  unfoldable pub gain : (ℕ → ℤ) → ℕ → ℤ
  gain b j = pos 4 *ℤ H j j +ℤ pos 8 *ℤ c j +ℤ pos 8 *ℤ sum n (λ i. H j i *ℤ b i)

  module _ (b b' : ℕ → ℤ) (j : ℕ) (h : j < n) (set : (i : ℕ) → i < n → b' i ≡ b i +ℤ only j i (pos 1)) where
    -- the sum of a row's values that are chosen
    along : (q : ℕ → ℤ) → sum n (λ i. q i *ℤ b' i) ≡ sum n (λ i. q i *ℤ b i) +ℤ q j
    along q =
        sum_ext n _ _ (λ i l. ap (λ z. q i *ℤ z) (set i l) ∙ mul_add (q i) (b i) (only j i (pos 1)) ∙ ap (λ z. q i *ℤ b i +ℤ z) (only_right j i (q i)))
        ∙ sum_add n (λ i. q i *ℤ b i) (λ i. only j i (q i)) ∙ ap (λ z. sum n (λ i. q i *ℤ b i) +ℤ z) (sum_only n j q h)

    pub set_gain : (i : ℕ) → gain b' i ≡ gain b i +ℤ pos 8 *ℤ H i j
    unfolding gain
    set_gain i = rw (along (H i)) (regroup (pos 4 *ℤ H i i +ℤ pos 8 *ℤ c i) (sum n (λ l. H i l *ℤ b l)) (H i j))
      where
        regroup : (a s p : ℤ) → a +ℤ pos 8 *ℤ (s +ℤ p) ≡ a +ℤ pos 8 *ℤ s +ℤ pos 8 *ℤ p
        regroup a s p = rw (parts a, parts s, parts p) (simp differences (omega ring))

    step : ℕ → ℤ
    step i = only j i (pos 1)

    once : sum₂ n (λ a l. H a l *ℤ (step a *ℤ b l)) ≡ sum n (λ l. H j l *ℤ b l)
    unfolding step
    once = sum₂_ext n _ _ (λ a l k m. only_times j a (H a l) (b l)) ∙ one_row n j (λ a l. H a l *ℤ b l) h

    twice : sum₂ n (λ a l. H a l *ℤ (step a *ℤ step l)) ≡ H j j
    unfolding step
    twice =
        sum₂_ext n _ _ (λ a l k m. only_times j a (H a l) (step l)) ∙ one_row n j (λ a l. H a l *ℤ step l) h
        ∙ sum_ext n _ _ (λ l m. only_right j l (H j l)) ∙ sum_only n j (H j) h

    pub set_cost : Symmetric n H → cost_eighths n H c b' ≡ cost_eighths n H c b +ℤ gain b j
    unfolding cost_eighths gain step
    set_cost sy =
        let mirrored : sum₂ n (λ a l. H a l *ℤ (step l *ℤ b a)) ≡ sum n (λ l. H j l *ℤ b l) =
        sum₂_ext n _ _ (λ a l k m. rw (sy.mirror a l k m)) ∙ sum₂_swap n (λ a l. H a l *ℤ (step a *ℤ b l)) ∙ once in
        let square : sum₂ n (λ i l. H i l *ℤ (b' i *ℤ b' l)) ≡ sum₂ n (λ i l. H i l *ℤ (b i *ℤ b l)) +ℤ sum n (λ l. H j l *ℤ b l) +ℤ (H j j +ℤ sum n (λ l. H j l *ℤ b l)) =
        sum₂_ext n _ _ (λ a l k m. ap (λ z. H a l *ℤ z) (ap₂ ◌*ℤ◌ (set a k) (set l m)) ∙ expanded (H a l) (b a) (step a) (b l) (step l))
        ∙ sum₂_add n _ _ ∙ ap₂ ◌+ℤ◌ (sum₂_add n _ _) (sum₂_add n _ _)
        ∙ ap₂ ◌+ℤ◌ (ap (λ z. sum₂ n (λ i l. H i l *ℤ (b i *ℤ b l)) +ℤ z) once) (ap₂ ◌+ℤ◌ twice mirrored) in
        rw (square, along c)
        (collect (sum₂ n (λ i l. H i l *ℤ (b i *ℤ b l))) (sum n (λ l. H j l *ℤ b l)) (H j j) (sum n (λ i. c i *ℤ b i)) (c j))
      where
        collect : (q s p l d : ℤ) → pos 4 *ℤ (q +ℤ s +ℤ (p +ℤ s)) +ℤ pos 8 *ℤ (l +ℤ d) ≡ pos 4 *ℤ q +ℤ pos 8 *ℤ l +ℤ (pos 4 *ℤ p +ℤ pos 8 *ℤ d +ℤ pos 8 *ℤ s)
        collect q s p l d = rw (parts q, parts s, parts p, parts l, parts d) (simp differences (omega ring))

  -- nothing chosen
  module _ (b : ℕ → ℤ) (none : (i : ℕ) → i < n → b i ≡ pos 0) where
    zero_sum : (q : ℕ → ℤ) → sum n (λ i. q i *ℤ b i) ≡ pos 0
    zero_sum q = sum_ext n _ (λ i. pos 0) (λ i l. ap (λ z. q i *ℤ z) (none i l) ∙ *ℤ-zero (q i)) ∙ sum_zero n

    pub no_gain : (j : ℕ) → gain b j ≡ pos 4 *ℤ H j j +ℤ pos 8 *ℤ c j
    unfolding gain
    no_gain j = rw (zero_sum (H j)) (+ℤ_idr (pos 4 *ℤ H j j +ℤ pos 8 *ℤ c j))

    pub no_cost : cost_eighths n H c b ≡ pos 0
    unfolding cost_eighths
    no_cost =
        let square : sum₂ n (λ i l. H i l *ℤ (b i *ℤ b l)) ≡ pos 0 =
        sum₂_ext n _ (λ i l. pos 0) (λ i l k m. ap (λ z. H i l *ℤ (z *ℤ b l)) (none i k) ∙ ap (λ z. H i l *ℤ z) (zero-*ℤ (b l)) ∙ *ℤ-zero (H i l)) ∙ sum₂_zero n in
        rw (square, zero_sum c)

-- ---- of the choices by number

digit_step : (q j i : ℕ) → bit (bit_at (raised q j) i) ≡ bit (bit_at (clear q j) i) +ℤ only j i (pos 1)
digit_step q j i = go (ℕ_discrete j i)
  where
    go : Dec (j ≡ i) → bit (bit_at (raised q j) i) ≡ bit (bit_at (clear q j) i) +ℤ only j i (pos 1)
    go (yes e) = rw (eq-eqb j i e, ← e, digit_set q j, digit_clear q j)
    go (no d) = rw (ne_eqb j i d, digit_other q j i d) (sym (+ℤ_idr (bit (bit_at (clear q j) i))))

module _ (n : ℕ) (h : Table) (c : ℕ → ℤ) where
  -- what setting digit j adds to choice k
  abbrev pub gain_of : ℕ → ℕ → ℤ
  gain_of j k = gain n (value_at h) c (λ i. bit (bit_at k i)) j

  walk_cost_lem : (k : ℕ) → walk_cost n h c k ≡ cost_eighths n (value_at h) c (λ i. bit (bit_at k i))
  unfolding walk_cost
  walk_cost_lem k = cost_ext n (value_at h) c (λ i l. at_digit n k i l)

  pub zero_cost : walk_cost n h c 0 ≡ pos 0
  zero_cost = walk_cost_lem 0 ∙ no_cost n (value_at h) c (λ i. bit (bit_at 0 i)) (λ i l. ap bit (bit_at-zero i))

  pub zero_gain : (j : ℕ) → gain_of j 0 ≡ pos 4 *ℤ value_at h j j +ℤ pos 8 *ℤ c j
  zero_gain j = no_gain n (value_at h) c (λ i. bit (bit_at 0 i)) (λ i l. ap bit (bit_at-zero i)) j

  pub digit_shifts : (i j q : ℕ) → j < n → gain_of i (raised q j) ≡ gain_of i (clear q j) +ℤ pos 8 *ℤ value_at h i j
  digit_shifts i j q l = set_gain n (value_at h) c (λ a. bit (bit_at (clear q j) a)) (λ a. bit (bit_at (raised q j) a)) j l (λ a m. digit_step q j a) i

  pub digit_grows : (j q : ℕ) → j < n → Symmetric n (value_at h) → walk_cost n h c (raised q j) ≡ walk_cost n h c (clear q j) +ℤ gain_of j (clear q j)
  digit_grows j q l sy =
      walk_cost_lem (raised q j)
      ∙ set_cost n (value_at h) c (λ a. bit (bit_at (clear q j) a)) (λ a. bit (bit_at (raised q j) a)) j l (λ a m. digit_step q j a) sy
      ∙ ap (λ z. z +ℤ gain_of j (clear q j)) (sym (walk_cost_lem (clear q j)))

  pub cost_small : InRange n h → hall_magnitude n h c ≤ most_magnitude → (k : ℕ) → nat_abs (walk_cost n h c k) ≤ most_sign_magnitude
  unfolding walk_cost
  cost_small r small k =
      let e = cost_entries r c (choice_at (digits_of n k)) in
      rw (← e) (both (sum h.count (cost_term h (choice_at (digits_of n k)))) (sum n (linear_term c (choice_at (digits_of n k))))
      (magnitude_of h) (total n (λ i. nat_abs (c i))) (cost_abs h (digits_of n k)) (linear_abs n c (digits_of n k)) small)
    where
      both : (q l : ℤ) (a b : ℕ) → nat_abs q ≤ a → nat_abs l ≤ b → a + 2 * b ≤ most_magnitude → nat_abs (pos 4 *ℤ q +ℤ pos 8 *ℤ l) ≤ most_sign_magnitude
      both q l a b x y z = omega (arith, abs_add (pos 4 *ℤ q) (pos 8 *ℤ l), unsigned_abs-mul (pos 4) q, unsigned_abs-mul (pos 8) l)

-- a value of the table is at most the magnitude
pub value_small : (h : Table) (i j : ℕ) → nat_abs (value_at h i j) ≤ magnitude_of h
unfolding value_at
value_small h i j =
    omega (arith, sum_bounded 1 h.count h.count (λ k. only (h.row k) i (only (h.column k) j (h.value k))) (λ k. nat_abs (h.value k)) (λ k. grind arith) (omega arith))
