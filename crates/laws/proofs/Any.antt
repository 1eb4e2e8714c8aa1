-- Tests that hold somewhere: in a list of conditions (`any_..`), of one of an index (`below_..`).
-- Assumes nothing.
use Prim.Native.Nat.{ℕ, zero, suc, ◌+◌, ◌<◌}
use mathlib.Core.Path.{◌≡◌, refl, ap, ◌∙◌}
use mathlib.Core.Bool.{Bool, true, false, cond, ◌&&◌}
use mathlib.Core.List.{List, [], ◌∷◌}
use mathlib.Core.Logic.{◌⊎◌, inl, inr}
use native.Mathlib.Omega.{arith}
use native.Mathlib.Nat.{eq-or-lt_of_le, le_of_suc-le-suc}
use native.Mathlib.Numerals.{add-one}
use Rattle.laws.specs.Refusal.{any_of}
use Rattle.laws.specs.Lists.{any_below}

pub cond_self : (b : Bool) → cond b true false ≡ b
cond_self true = refl
cond_self false = refl

pub cond_same : {A : Type 0} (b : Bool) (x : A) → cond b x x ≡ x
cond_same true x = refl
cond_same false x = refl

pub any_head : (b : Bool) (rest : List Bool) → any_of (b ∷ rest) ≡ false → b ≡ false
unfolding any_of
any_head true rest e = e
any_head false rest e = refl

pub any_rest : (b : Bool) (rest : List Bool) → any_of (b ∷ rest) ≡ false → any_of rest ≡ false
unfolding any_of
any_rest true rest e = cc
any_rest false rest e = e

pub any_none : any_of [] ≡ false
unfolding any_of
any_none = refl

pub any_not : (b : Bool) (rest : List Bool) → b ≡ false → any_of rest ≡ false → any_of (b ∷ rest) ≡ false
unfolding any_of
any_not b rest e r = rw e r

pub any_here : (b : Bool) (rest : List Bool) → b ≡ true → any_of (b ∷ rest) ≡ true
unfolding any_of
any_here b rest e = rw e

pub any_skip : (b : Bool) (rest : List Bool) → b ≡ false → any_of (b ∷ rest) ≡ any_of rest
unfolding any_of
any_skip b rest e = rw e

pub any_last : (b : Bool) → any_of (b ∷ []) ≡ b
unfolding any_of
any_last true = refl
any_last false = refl

-- two tests of which the second fails where the first holds
pub false_and : (a b : Bool) → (a ≡ true → b ≡ false) → (a && b) ≡ false
false_and true b h = h refl
false_and false b h = refl

-- a test that holds somewhere
module _ (p : ℕ → Bool) where
  pub below_none : (n : ℕ) → ((j : ℕ) → j < n → p j ≡ false) → any_below n p ≡ false
  unfolding any_below
  below_none zero h = refl
  below_none (suc n) h = rw (h n (omega arith)) (below_none n (λ j l. h j (omega arith)))

  pub below_at : (n j : ℕ) → j < n → p j ≡ true → any_below n p ≡ true
  unfolding any_below
  below_at zero j l e = absurd (omega arith)
  below_at (suc n) j l e = go (p n) refl (eq-or-lt_of_le (le_of_suc-le-suc l)) (λ k. below_at n j k e)
    where
      go : (t : Bool) → p n ≡ t → (j ≡ n) ⊎ (j < n) → (j < n → any_below n p ≡ true) → cond t true (any_below n p) ≡ true
      go true q d later = refl
      go false q (inl s) later = cc
      go false q (inr k) later = later k

  pub below_only : (n j : ℕ) → j < n → ((i : ℕ) → i < n → (i ≡ j → ⊥) → p i ≡ false) → any_below n p ≡ p j
  unfolding any_below
  below_only zero j l h = absurd (omega arith)
  below_only (suc n) j l h = go (eq-or-lt_of_le (le_of_suc-le-suc l)) (λ k. below_only n j k (λ i m. h i (omega arith)))
    where
      go : (j ≡ n) ⊎ (j < n) → (j < n → any_below n p ≡ p j) → cond (p n) true (any_below n p) ≡ p j
      go (inl e) later = rw (below_none n (λ i m. h i (omega arith) (λ s. omega arith)), ← e) (cond_self (p j))
      go (inr k) later = rw (h n (omega arith) (λ s. omega arith)) (later k)

  -- where it holds nowhere, and where it holds
  pub below_false : (n : ℕ) → any_below n p ≡ false → (k : ℕ) → k < n → p k ≡ false
  unfolding any_below
  below_false zero e k h = absurd (omega arith)
  below_false (suc n) e k h = go (p n) refl (below_false n) (eq-or-lt_of_le (le_of_suc-le-suc h)) e
    where
      go : (t : Bool) → p n ≡ t → (any_below n p ≡ false → (l : ℕ) → l < n → p l ≡ false) → (k ≡ n) ⊎ (k < n) → cond t true (any_below n p) ≡ false → p k ≡ false
      go true q ih d e = cc
      go false q ih (inl d) e = ap p d ∙ q
      go false q ih (inr d) e = ih e k d

  pub below_true : (n : ℕ) → any_below n p ≡ true → (k : ℕ) × (k < n) × (p k ≡ true)
  unfolding any_below
  below_true zero e = cc
  below_true (suc n) e = go (p n) refl e (below_true n)
    where
      go : (t : Bool) → p n ≡ t → cond t true (any_below n p) ≡ true → (any_below n p ≡ true → (k : ℕ) × (k < n) × (p k ≡ true)) → (k : ℕ) × (k < suc n) × (p k ≡ true)
      go true q e ih = (n, omega arith, q)
      go false q e ih = let (k, h, r) = ih e in (k, omega arith, r)

  -- a loop that looks for a place where it holds, past one where it doesn't
  pub below_passed : (k : ℕ) → any_below k p ≡ false → p k ≡ false → any_below (k + 1) p ≡ false
  unfolding any_below
  below_passed k e f = rw (add-one, f) e

  -- a loop that goes on, and keeps whether it held somewhere
  pub below_next : (n : ℕ) (found : Bool) → found ≡ any_below n p → cond (p n) true found ≡ any_below (n + 1) p
  unfolding any_below
  below_next n found e = rw (add-one n, e)
