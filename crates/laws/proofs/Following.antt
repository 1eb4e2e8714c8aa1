-- An ordered list of refusals, as a function goes along it: it answers the first, or moves on.
-- Assumes nothing.
use Prim.Native.Nat.{ℕ, zero, suc, ◌<◌}
use mathlib.Core.Path.{◌≡◌, refl, sym, ap₂, ◌∙◌}
use mathlib.Core.Bool.{Bool, true, false, cond}
use mathlib.Core.Logic.{◌⊎◌, inl, inr}
use native.Mathlib.Nat.{eq-or-lt_of_le, le_of_suc-le-suc}
use mathlib.Core.List.{List, [], ◌∷◌, ◌++◌}
use native.Mathlib.Omega.{arith}
use Rattle.laws.specs.Refusal.{◌if◌, or_else, first, first_of}
use Rattle.laws.specs.Lists.{any_below}
use Rattle.laws.proofs.Refusal.{stop, pass, first_last}

module _ (a : ℕ) (rest : List ℕ) where
  -- by what a call answered
  pub answers : {r : ℕ} → r ≡ a → (r ≡ 0 → ⊥) → r ≡ first (a ∷ rest)
  unfolding first
  answers e n = stop a (first rest) e n

  pub moves_on : {x r : ℕ} → x ≡ a → x ≡ 0 → r ≡ first rest → r ≡ first (a ∷ rest)
  unfolding first
  moves_on e z h = pass a (first rest) e z h

-- by a test
pub answers_if : (k : ℕ) (b : Bool) (rest : List ℕ) → b ≡ true → suc k ≡ first (suc k if b ∷ rest)
unfolding first or_else
answers_if k b rest e = rw e

pub moves_on_if : (k : ℕ) (b : Bool) (rest : List ℕ) {r : ℕ} → b ≡ false → r ≡ first rest → r ≡ first (k if b ∷ rest)
unfolding first or_else
moves_on_if k b rest e h = rw e h

-- at the last
pub answers_last : (a : ℕ) {r : ℕ} → r ≡ a → r ≡ first (a ∷ [])
answers_last a e = e ∙ sym (first_last a)

pub passes_last : (k : ℕ) (b : Bool) → b ≡ false → 0 ≡ first (k if b ∷ [])
unfolding first or_else
passes_last k b e = rw e

-- two lists, one after the other
pub first_append : (xs ys : List ℕ) → first (xs ++ ys) ≡ or_else (first xs) (first ys)
unfolding first or_else
first_append [] ys = refl
first_append (zero ∷ xs) ys = first_append xs ys
first_append (suc a ∷ xs) ys = refl

-- one number for each index whose condition holds
pub first_of_if : (k : ℕ) (p : ℕ → Bool) (n : ℕ) → first_of (λ i. suc k if p i) n ≡ suc k if any_below n p
unfolding first_of or_else any_below
first_of_if k p zero = refl
first_of_if k p (suc n) = rw (first_of_if k p n) (go (any_below n p) (p n))
  where
    go : (a b : Bool) → or_else (suc k if a) (suc k if b) ≡ suc k if (cond b true a)
    go true true = refl
    go true false = refl
    go false true = refl
    go false false = refl

-- two rows that agree below n
pub first_of_ext : (f g : ℕ → ℕ) (n : ℕ) → ((i : ℕ) → i < n → f i ≡ g i) → first_of f n ≡ first_of g n
unfolding first_of
first_of_ext f g zero e = refl
first_of_ext f g (suc n) e = ap₂ or_else (first_of_ext f g n (λ i l. e i (omega arith))) (e n (omega arith))

-- the first of a row that is refused at m at the latest
pub first_of_stops : (f : ℕ → ℕ) (m n : ℕ) → m < n → (f m ≡ 0 → ⊥) → first_of f n ≡ or_else (first_of f m) (f m)
unfolding first_of or_else
first_of_stops f m zero l h = absurd (omega arith)
first_of_stops f m (suc n) l h = go (eq-or-lt_of_le (le_of_suc-le-suc l)) (λ k. first_of_stops f m n k h)
  where
    refused : (a b : ℕ) → (b ≡ 0 → ⊥) → (c : ℕ) → or_else (or_else a b) c ≡ or_else a b
    refused (suc a) b n c = refl
    refused zero (suc b) n c = refl
    refused zero zero n c = absurd (n refl)

    go : (m ≡ n) ⊎ (m < n) → (m < n → first_of f n ≡ or_else (first_of f m) (f m)) → or_else (first_of f n) (f n) ≡ or_else (first_of f m) (f m)
    go (inl e) later = rw e
    go (inr k) later = rw (later k) (refused (first_of f m) (f m) h (f n))
