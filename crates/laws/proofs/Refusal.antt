-- A row of refusals, followed test by test, and what holds where nothing is refused.
use Prim.Native.Nat.{ℕ, zero, suc, ◌+◌, ◌<◌}
use mathlib.Core.Path.{◌≡◌, refl, sym, ◌∙◌}
use mathlib.Core.Bool.{Bool, true, false}
use mathlib.Core.List.{List, [], ◌∷◌}
use mathlib.Core.Logic.{◌⊎◌, inl, inr}
use native.Mathlib.Omega.{arith}
use native.Mathlib.Numerals.{add-one}
use native.Mathlib.Nat.{eq-or-lt_of_le, le_of_suc-le-suc}
use Rattle.laws.specs.Refusal.{◌if◌, or_else, first, first_of}

-- a refusal answers, and what is not refused passes on to the rest
pub stop : (a b : ℕ) {r : ℕ} → r ≡ a → (r ≡ 0 → ⊥) → r ≡ or_else a b
unfolding or_else
stop zero b e n = absurd (n e)
stop (suc a) b e n = e

pub pass : (a b : ℕ) {r x : ℕ} → x ≡ a → x ≡ 0 → r ≡ b → r ≡ or_else a b
unfolding or_else
pass zero b e z h = h
pass (suc a) b e z h = cc

-- neither of two
pub both : (a b : ℕ) → or_else a b ≡ 0 → (a ≡ 0) × (b ≡ 0)
unfolding or_else
both zero b e = (refl, e)
both (suc a) b e = absurd (cc)

pub neither : (a b : ℕ) → a ≡ 0 → b ≡ 0 → or_else a b ≡ 0
unfolding or_else
neither a b e f = rw (e, f)

pub clear : (t : Bool) (k : ℕ) → suc k if t ≡ 0 → t ≡ false
clear true k e = cc
clear false k e = refl

-- an ordered list, number by number
pub first_end : first [] ≡ 0
unfolding first
first_end = refl

pub first_head : (k : ℕ) (rest : List ℕ) → first (k ∷ rest) ≡ 0 → k ≡ 0
unfolding first
first_head k rest e = (both k (first rest) e).0

pub first_rest : (k : ℕ) (rest : List ℕ) → first (k ∷ rest) ≡ 0 → first rest ≡ 0
unfolding first
first_rest k rest e = (both k (first rest) e).1

pub first_found : (k : ℕ) (rest : List ℕ) → (k ≡ 0 → ⊥) → first (k ∷ rest) ≡ k
unfolding first
first_found k rest n = sym (stop k (first rest) refl n)

pub first_next : (k : ℕ) (rest : List ℕ) → k ≡ 0 → first (k ∷ rest) ≡ first rest
unfolding first
first_next k rest e = sym (pass k (first rest) refl e refl)

pub first_here : (k : ℕ) (b : Bool) (rest : List ℕ) → b ≡ true → first (suc k if b ∷ rest) ≡ suc k
unfolding first or_else
first_here k b rest e = rw e

pub first_skip : (k : ℕ) (b : Bool) (rest : List ℕ) → b ≡ false → first (k if b ∷ rest) ≡ first rest
unfolding first or_else
first_skip k b rest e = rw e

pub first_last : (k : ℕ) → first (k ∷ []) ≡ k
unfolding first or_else
first_last zero = refl
first_last (suc k) = refl

-- a row, as a loop goes through it
module _ (f : ℕ → ℕ) where
  pub passed : (i : ℕ) {r : ℕ} → first_of f i ≡ 0 → r ≡ f i → r ≡ 0 → first_of f (i + 1) ≡ 0
  unfolding first_of or_else
  passed i none e z = rw (add-one, none) (sym e ∙ z)

  pub found : (i n : ℕ) {r : ℕ} → first_of f i ≡ 0 → i < n → r ≡ f i → (r ≡ 0 → ⊥) → r ≡ first_of f n
  unfolding first_of or_else
  found i zero none l e z = absurd (omega arith)
  found i (suc m) {r} none l e z = go (eq-or-lt_of_le (le_of_suc-le-suc l)) (λ k. found i m none k e z)
    where
      go : (i ≡ m) ⊎ (i < m) → (i < m → r ≡ first_of f m) → r ≡ or_else (first_of f m) (f m)
      go (inl same) later = rw (← same, none) e
      go (inr k) later = stop _ _ (later k) z

  -- none of a row
  pub each : (n : ℕ) → first_of f n ≡ 0 → (i : ℕ) → i < n → f i ≡ 0
  unfolding first_of
  each zero e i l = absurd (omega arith)
  each (suc n) e i l = go (eq-or-lt_of_le (le_of_suc-le-suc l)) (each n (both _ _ e).0 i)
    where
      go : (i ≡ n) ⊎ (i < n) → (i < n → f i ≡ 0) → f i ≡ 0
      go (inl same) rest = rw same (both _ _ e).1
      go (inr k) rest = rest k

  pub none_of : (n : ℕ) → ((i : ℕ) → i < n → f i ≡ 0) → first_of f n ≡ 0
  unfolding first_of
  none_of zero h = refl
  none_of (suc n) h = neither _ _ (none_of n (λ i l. h i (omega arith))) (h n (omega arith))
