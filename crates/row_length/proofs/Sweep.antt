-- One sweep under rule 3, row by row: the factor stays finite and at most 2, and a row that is rewritten has the length one when it is written,
-- and keeps it to the end.
--     sweep_bounded, sweep_done
-- Assumes nothing.
use mathlib.Core.Path.{◌≡◌, refl, sym, ap, ◌∙◌, subst}
use mathlib.Core.Logic.{◌⊎◌, inl, inr}
use mathlib.Core.Bool.{Bool, true, false}
use mathlib.Core.List.{List}
use Prim.Native.Nat.{ℕ, zero, suc, ◌+◌, ◌-◌, ◌*◌, ◌^◌, ◌≤◌, ◌<◌}
use native.Mathlib.Nat.{le_refl, le_trans, le_of_eq, mul-le-mul, eq-or-lt_of_le}
use native.Mathlib.Decide.{ℕ_discrete}
use native.Mathlib.Omega.{arith}
use lib.Dec.{T, lit≤}
use lib.Ieee.{Float, nan, of_bits, eq}
use lib.ListN.{length, get_or}
use Rattle.laws.specs.Turns.{up_to}
use Rattle.limits.specs.Limits.{most_rank}
use Rattle.laws.specs.Rows.{row_of, set_row, part}
use Rattle.laws.proofs.Parts.{length_part, get_d_part, length_row_of, row_within}
use Rattle.ieee.specs.Floats.{◌/ᶠ◌, at, zero64, one64}
use Rattle.ieee.specs.Sqrt.{sqrt_of}
use Rattle.factor.specs.Shapes.{Shaped}
use Rattle.factor.specs.Norms.{squared_norm}
use Rattle.coordinate_sweep.specs.Sweep.{exact_row, wrote, update_row, gradient_at, row_to, row_by, swept_row, sweep_to}
use Rattle.factor.proofs.Shaping.{reshaped}
use Rattle.coordinate_sweep.proofs.TwoRows.{length_updated, get_d_other}
use Rattle.row_length.specs.Length.{rewrites}
use Rattle.float_error.proofs.Values.{AtMost}
use Rattle.row_length.proofs.Norm.{Entry}
use Rattle.row_length.proofs.Row.{Done, row_done, row_low}
use Rattle.row_length.proofs.Gradient.{gradient_length, gradient_low}
use Rattle.row_length.proofs.Rows.{row_same, length_set, get_d_same, row_other, row_element}

-- ---- what a row becomes

written : (g row : List Float) (norm : Float) → wrote norm ≡ true → update_row zero64 g norm row ≡ exact_row g (one64 /ᶠ norm) row
unfolding update_row eq of_bits
written g row norm e = rw e

standing : (g row : List Float) (norm : Float) → wrote norm ≡ false → update_row zero64 g norm row ≡ row
unfolding update_row
standing g row norm e = rw e

-- ---- the factor

module _ (cols : List ℕ) (values : List Float) (starts : List ℕ) (m rank : ℕ) where
  pub record Bounded (factor : List Float) : Type 0 where
    pub shaped : Shaped cols values starts factor m rank
    pub small : (k j : ℕ) → k < m → j < rank → AtMost (2 * 2 ^ 1074) (at factor (k * rank + j))

  module _ (few : length cols ≤ 2 ^ 16) (thin : rank ≤ most_rank) (low : (e : ℕ) → e < length values → AtMost (2 ^ 39 * 2 ^ 1074) (at values e)) where
    module _ (factor : List Float) (b : Bounded factor) (i : ℕ) (h : i < m) where
      abbrev lo : ℕ
      lo = get_or starts i 0

      abbrev hi : ℕ
      hi = get_or starts (i + 1) 0

      abbrev g : List Float
      g = gradient_at cols values starts rank factor i

      lengths : length (part lo hi cols) ≡ hi - lo
      lengths = length_part lo hi cols (b.shaped.ended i h)

      in_cols : (e : ℕ) → e < length (part lo hi cols) → lo + e < length cols
      in_cols e k = omega (arith, b.shaped.ended i h, lengths)

      g_length : length g ≡ rank
      unfolding gradient_at
      g_length = gradient_length (part lo hi cols) (part lo hi values) factor i rank

      value_low : (e : ℕ) → e < length (part lo hi cols) → AtMost (2 ^ 39 * 2 ^ 1074) (at (part lo hi values) e)
      value_low e k =
          let in-part : e < hi - lo = rw lengths at k in
          subst (AtMost (2 ^ 39 * 2 ^ 1074)) (sym (get_d_part lo hi values e nan in-part)) (low (lo + e) (rw b.shaped.paired at (in_cols e k)))

      factor_low : (e j : ℕ) → e < length (part lo hi cols) → j < rank → AtMost (2 * 2 ^ 1074) (at factor (get_or (part lo hi cols) e 0 * rank + j))
      factor_low e j k l =
          let in-part : e < hi - lo = rw lengths at k in
          subst (λ (c : ℕ). AtMost (2 * 2 ^ 1074) (at factor (c * rank + j))) (sym (get_d_part lo hi cols e 0 in-part)) (b.small (get_or cols (lo + e) 0) j (b.shaped.columns (lo + e) (in_cols e k)) l)

      g_low : (j : ℕ) → j < rank → AtMost (2 ^ 60 * 2 ^ 1074) (at g j)
      unfolding gradient_at
      g_low = gradient_low (part lo hi cols) (part lo hi values) factor i rank (omega (arith, lengths, b.shaped.ended i h)) value_low factor_low

      abbrev Q : ℕ
      Q = 2 ^ 120 * (2 ^ 1074 * 2 ^ 1074)

      fine : Q ≤ 2 ^ 1200 * 2 ^ 1074
      fine = lit≤ tt

      entries : (j : ℕ) → j < length g → Entry Q (at g j)
      entries j k =
          let a = g_low j (rw g_length at k) in
          record { sign = a.sign; worth = a.worth; low = le_trans (mul-le-mul a.low a.low) (lit≤ tt) }

      short : length g ≤ most_rank
      short = rw g_length thin

      abbrev norm : Float
      norm = sqrt_of (squared_norm g)

      abbrev old : List Float
      old = row_of rank factor i

      abbrev new : List Float
      new = update_row zero64 g norm old

      row_in : (k : ℕ) → k < m → k * rank + rank ≤ length factor
      row_in k l = le_trans (row_within k m rank l) (le_of_eq (sym b.shaped.whole))

      old_length : length old ≡ rank
      old_length = length_row_of rank i factor (row_in i h)

      new_length : length new ≡ rank
      new_length = length_updated zero64 g norm old ∙ old_length

      new_done : wrote norm ≡ true → Done new
      new_done w =
          subst Done (sym (written g old norm w))
          (row_done Q fine g entries short (subst T (sym w) tt) old (old_length ∙ sym g_length))

      new_low : (t : Bool) → wrote norm ≡ t → (j : ℕ) → j < rank → AtMost (2 * 2 ^ 1074) (at new j)
      new_low true w j k =
          subst (λ (r : List Float). AtMost (2 * 2 ^ 1074) (at r j)) (sym (written g old norm w))
          (row_low Q fine g entries short (subst T (sym w) tt) old (old_length ∙ sym g_length) j (rw g_length k))
      new_low false w j k =
          subst (λ (r : List Float). AtMost (2 * 2 ^ 1074) (at r j)) (sym (standing g old norm w))
          (subst (AtMost (2 * 2 ^ 1074)) (sym (row_element rank factor i j nan k)) (b.small i j h k))

      new_standing : wrote norm ≡ false → new ≡ old
      new_standing w = standing g old norm w

      abbrev next : List Float
      next = set_row rank factor i new

      swept_is : swept_row cols values starts rank zero64 factor i ≡ next
      unfolding swept_row row_by row_to
      swept_is = refl

      next_bounded : Bounded next
      next_bounded = record {
        shaped = reshaped b.shaped (length_set rank i factor new (row_in i h) new_length);
        small = λ k j l o. go k j l o (ℕ_discrete k i);
      }
        where
          go : (k j : ℕ) → k < m → j < rank → Dec (k ≡ i) → AtMost (2 * 2 ^ 1074) (at next (k * rank + j))
          go k j l o (yes e) =
              subst (λ (x : ℕ). AtMost (2 * 2 ^ 1074) (at next (x * rank + j))) (sym e)
              (subst (AtMost (2 * 2 ^ 1074)) (sym (get_d_same rank i factor new (row_in i h) new_length j nan o)) (new_low (wrote norm) refl j o))
          go k j l o (no d) = subst (AtMost (2 * 2 ^ 1074)) (sym (get_d_other rank i k j factor new nan (row_in i h) new_length d o)) (b.small k j l o)

      next_row : row_of rank next i ≡ new
      next_row = row_same rank i factor new (row_in i h) new_length

      next_other : (k : ℕ) → (k ≡ i → ⊥) → k < m → row_of rank next k ≡ row_of rank factor k
      next_other k d l = row_other rank i factor new (row_in i h) new_length k nan d (row_in k l)

    -- ---- the sweep

    module _ (factor : List Float) (b : Bounded factor) where
      abbrev after : ℕ → List Float
      after n = sweep_to cols values starts rank zero64 factor n

      after_next : (n : ℕ) → after (suc n) ≡ swept_row cols values starts rank zero64 (after n) n
      unfolding sweep_to up_to
      after_next n = refl

      pub sweep_bounded : (n : ℕ) → n ≤ m → Bounded (after n)
      unfolding sweep_to up_to
      sweep_bounded zero h = b
      sweep_bounded (suc n) h =
          let c = sweep_bounded n (omega arith) in
          subst Bounded (sym (swept_is (after n) c n h)) (next_bounded (after n) c n h)

      row_still : (i n : ℕ) → i < n → n ≤ m → row_of rank (after n) i ≡ row_of rank (after (suc i)) i
      row_still i zero h l = absurd (omega arith)
      row_still i (suc n) h l = go (eq-or-lt_of_le h) (λ k. row_still i n k (omega arith))
        where
          c : Bounded (after n)
          c = sweep_bounded n (omega arith)

          go : (suc i ≡ suc n) ⊎ (suc i < suc n) → (i < n → row_of rank (after n) i ≡ row_of rank (after (suc i)) i) → row_of rank (after (suc n)) i ≡ row_of rank (after (suc i)) i
          go (inl e) before = ap (λ (k : ℕ). row_of rank (after k) i) (sym e)
          go (inr k) before =
              ap (λ (f : List Float). row_of rank f i) (after_next n ∙ swept_is (after n) c n l)
              ∙ next_other (after n) c n l i (λ e. omega (arith, k, e)) (omega arith)
              ∙ before (omega arith)

      pub sweep_done : (i : ℕ) → i < m → rewrites cols values starts rank factor i ≡ true → Done (row_of rank (after m) i)
      unfolding rewrites
      sweep_done i h w =
          let c = sweep_bounded i (omega arith) in
          subst Done
          (sym (row_still i m h (le_refl m) ∙ ap (λ (f : List Float). row_of rank f i) (after_next i ∙ swept_is (after i) c i h) ∙ next_row (after i) c i h))
          (new_done (after i) c i h w)

      -- before its turn a row is as it was
      row_before : (i n : ℕ) → n ≤ i → i < m → row_of rank (after n) i ≡ row_of rank factor i
      unfolding sweep_to up_to
      row_before i zero h l = refl
      row_before i (suc n) h l =
          let c = sweep_bounded n (omega arith) in
          ap (λ (f : List Float). row_of rank f i) (swept_is (after n) c n (omega arith))
          ∙ next_other (after n) c n (omega arith) i (λ e. omega (arith, e)) l
          ∙ row_before i n (omega arith) l

      pub sweep_standing : (i : ℕ) → i < m → rewrites cols values starts rank factor i ≡ false → row_of rank (after m) i ≡ row_of rank factor i
      unfolding rewrites
      sweep_standing i h w =
          let c = sweep_bounded i (omega arith) in
          row_still i m h (le_refl m)
          ∙ ap (λ (f : List Float). row_of rank f i) (after_next i ∙ swept_is (after i) c i h)
          ∙ next_row (after i) c i h
          ∙ new_standing (after i) c i h w
          ∙ row_before i i (le_refl i) h
