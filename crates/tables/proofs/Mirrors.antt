-- A table whose entries are mirrored has a symmetric square of values.
use mathlib.Core.Path.{◌≡◌, refl, sym, ◌∙◌, ap}
use mathlib.Core.Logic.{inl, inr}
use mathlib.Core.Bool.{Bool, true, false, cond}
use Prim.Native.Nat.{ℕ, zero, suc, ◌<◌}
use native.Mathlib.Decide.{ℕ_discrete}
use native.Mathlib.Omega.{arith}
use lib.IntN.{ℤ, pos}
use lib.Dec.{eqb}
use borrow.Author.Tests.{eq-eqb, ne_eqb}
use Rattle.laws.specs.Sum.{sum, only}
use Rattle.tables.specs.Table.{Table, value_at, stored_at, Before, Rising, Mirrored, Symmetric}
use Rattle.tables.specs.Check.{Hall}
use Rattle.laws.proofs.Any.{below_true, below_false, below_at, below_none}
use Rattle.tables.proofs.Quadratic.{Order, below, same, above, order}
use Rattle.laws.proofs.Sums.{only_yes, only_no, only_zero, sum_ext, sum_zero, sum_only}

-- a sum of which one summand alone is not 0
sum_single : (n k : ℕ) (f : ℕ → ℤ) → k < n → ((l : ℕ) → l < n → (l ≡ k → ⊥) → f l ≡ pos 0) → sum n f ≡ f k
sum_single n k f h z = sum_ext n _ _ (λ l j. go l j (ℕ_discrete l k)) ∙ sum_only n k f h
  where
    go : (l : ℕ) → l < n → Dec (l ≡ k) → f l ≡ only k l (f l)
    go l j (yes e) = sym (only_yes k l (f l) (sym e))
    go l j (no d) = z l j d ∙ sym (only_no k l (f l) (λ e. d (sym e)))

-- entries r l, c l, v l, for l below n, of which those at (i, j) are asked
module _ (n : ℕ) (r c : ℕ → ℕ) (v : ℕ → ℤ) (i j : ℕ) where
  elsewhere : (l : ℕ) → (r l ≡ i → c l ≡ j → ⊥) → only (r l) i (only (c l) j (v l)) ≡ pos 0
  elsewhere l d = go (ℕ_discrete (r l) i)
    where
      go : Dec (r l ≡ i) → only (r l) i (only (c l) j (v l)) ≡ pos 0
      go (yes e) = ap (only (r l) i) (only_no (c l) j (v l) (d e)) ∙ only_zero (r l) i
      go (no e) = only_no (r l) i _ e

  at_entry : (k : ℕ) → k < n → r k ≡ i → c k ≡ j → ((l : ℕ) → l < n → r l ≡ i → c l ≡ j → l ≡ k)
      → sum n (λ l. only (r l) i (only (c l) j (v l))) ≡ v k
  at_entry k h a b once =
      sum_single n k _ h (λ l m d. elsewhere l (λ p q. d (once l m p q)))
      ∙ only_yes (r k) i _ a ∙ only_yes (c k) j (v k) b

  at_none : ((l : ℕ) → l < n → r l ≡ i → c l ≡ j → ⊥) → sum n (λ l. only (r l) i (only (c l) j (v l))) ≡ pos 0
  at_none d = sum_ext n _ (λ l. pos 0) (λ l m. elsewhere l (d l m)) ∙ sum_zero n

-- ---- in rising order each place is there once

before_trans : (i j k l a b : ℕ) → Before i j k l → Before k l a b → Before i j a b
before_trans i j k l a b (inl p) (inl q) = inl (omega arith)
before_trans i j k l a b (inl p) (inr q) = inl (omega arith)
before_trans i j k l a b (inr p) (inl q) = inl (omega arith)
before_trans i j k l a b (inr p) (inr q) = inr (omega arith)

not_before : (i j k l : ℕ) → i ≡ k → j ≡ l → Before i j k l → ⊥
not_before i j k l e d (inl p) = omega arith
not_before i j k l e d (inr p) = omega arith

module _ {t : Table} (ri : Rising t) where
  pub rises : (k l : ℕ) → k < l → l < t.count → Before (t.row k) (t.column k) (t.row l) (t.column l)
  rises k zero h h' = absurd (omega arith)
  rises k (suc l) h h' = go (ℕ_discrete k l) (λ j. rises k l j (omega arith))
    where
      go : Dec (k ≡ l) → (k < l → Before (t.row k) (t.column k) (t.row l) (t.column l)) → Before (t.row k) (t.column k) (t.row (suc l)) (t.column (suc l))
      go (yes e) ih = rw e (ri.rise l h')
      go (no d) ih = before_trans _ _ (t.row l) (t.column l) _ _ (ih (omega arith)) (ri.rise l h')

  pub once : (k l : ℕ) → k < t.count → l < t.count → t.row k ≡ t.row l → t.column k ≡ t.column l → k ≡ l
  once k l h h' e d = go (order k l)
    where
      go : Order k l → k ≡ l
      go (below p) = absurd (not_before _ _ _ _ e d (rises k l p h'))
      go (same p) = p
      go (above p) = absurd (not_before _ _ _ _ (sym e) (sym d) (rises l k p h))

  -- the value where an entry stands
  pub value_here : (i j k : ℕ) → k < t.count → t.row k ≡ i → t.column k ≡ j → value_at t i j ≡ t.value k
  unfolding value_at
  value_here i j k h a b =
      at_entry t.count t.row t.column t.value i j k h a b (λ o p q s. once o k p h (q ∙ sym a) (s ∙ sym b))

pub value_none : (t : Table) (i j : ℕ) → ((l : ℕ) → l < t.count → t.row l ≡ i → t.column l ≡ j → ⊥) → value_at t i j ≡ pos 0
unfolding value_at
value_none t i j d = at_none t.count t.row t.column t.value i j d

-- ---- where an entry stands, and where none does

both_false : (a b i j : ℕ) → cond (eqb a i) (eqb b j) false ≡ false → a ≡ i → b ≡ j → ⊥
both_false a b i j e p q = cc (rw (eq-eqb a i p, eq-eqb b j q) at e)

both_true : (a b i j : ℕ) → cond (eqb a i) (eqb b j) false ≡ true → (a ≡ i) × (b ≡ j)
both_true a b i j e = go (ℕ_discrete a i) (ℕ_discrete b j)
  where
    go : Dec (a ≡ i) → Dec (b ≡ j) → (a ≡ i) × (b ≡ j)
    go (yes p) (yes q) = (p, q)
    go (yes p) (no q) = cc (rw (eq-eqb a i p, ne_eqb b j q) at e)
    go (no p) q = cc (rw (ne_eqb a i p) at e)

-- an entry there, or none
pub stored_true : (t : Table) (i j : ℕ) → stored_at t i j ≡ true → (k : ℕ) × (k < t.count) × (t.row k ≡ i) × (t.column k ≡ j)
unfolding stored_at
stored_true t i j e =
    let (k, h, q) = below_true (λ k. cond (eqb (t.row k) i) (eqb (t.column k) j) false) t.count e in
    let (a, b) = both_true (t.row k) (t.column k) i j q in
    (k, h, a, b)

pub stored_false : (t : Table) (i j : ℕ) → stored_at t i j ≡ false → (k : ℕ) → k < t.count → t.row k ≡ i → t.column k ≡ j → ⊥
unfolding stored_at
stored_false t i j e k h = both_false (t.row k) (t.column k) i j (below_false _ t.count e k h)

pub stored_here : (t : Table) (i j k : ℕ) → k < t.count → t.row k ≡ i → t.column k ≡ j → stored_at t i j ≡ true
unfolding stored_at
stored_here t i j k h a b = below_at _ t.count k h (rw (eq-eqb (t.row k) i a, eq-eqb (t.column k) j b))

pub stored_none : (t : Table) (i j : ℕ) → ((k : ℕ) → k < t.count → t.row k ≡ i → t.column k ≡ j → ⊥) → stored_at t i j ≡ false
unfolding stored_at
stored_none t i j d = below_none _ t.count (λ k h. go k h (ℕ_discrete (t.row k) i) (ℕ_discrete (t.column k) j))
  where
    go : (k : ℕ) → k < t.count → Dec (t.row k ≡ i) → Dec (t.column k ≡ j) → cond (eqb (t.row k) i) (eqb (t.column k) j) false ≡ false
    go k h (yes a) (yes b) = absurd (d k h a b)
    go k h (yes a) (no b) = rw (eq-eqb (t.row k) i a, ne_eqb (t.column k) j b)
    go k h (no a) b = rw (ne_eqb (t.row k) i a)

pub unstored_zero : (t : Table) (i j : ℕ) → stored_at t i j ≡ false → value_at t i j ≡ pos 0
unstored_zero t i j e = value_none t i j (stored_false t i j e)

-- the theorem
pub mirrored_symmetric : {t : Table} → Rising t → Mirrored t → (m : ℕ) → Symmetric m (value_at t)
mirrored_symmetric {t} ri mi m = record { mirror = λ i j h k. go i j (stored_at t i j) refl }
  where
    go : (i j : ℕ) (s : Bool) → stored_at t i j ≡ s → value_at t i j ≡ value_at t j i
    go i j true s =
        let (k, h, a, b) = stored_true t i j s in
        let (l, h', a', b', e) = mi.image k h in
        value_here ri i j k h a b ∙ sym e ∙ sym (value_here ri j i l h' (a' ∙ b) (b' ∙ a))
    go i j false s =
        unstored_zero t i j s
        ∙ sym (value_none t j i (λ l h a b. let (l', h', a', b', e) = mi.image l h in stored_false t i j s l' h' (a' ∙ b) (b' ∙ a)))

-- of an accepted (H, c)
pub hall_symmetric : {most capacity limit n : ℕ} {h : Table} {c : ℕ → ℤ} → Hall most capacity limit n h c → Symmetric n (value_at h)
hall_symmetric {n = n} ok = mirrored_symmetric ok.rising ok.mirrored n
