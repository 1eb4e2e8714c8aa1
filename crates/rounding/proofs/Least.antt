-- The first of the least: a loop that keeps it, and what it is.
--     least_next       the turn of a loop that keeps the first least of f, and g there
--     least_within, least_least, least_first   it is an index, none has less, and each one before it has more
-- Assumes nothing.
use mathlib.Core.Path.{◌≡◌, refl, sym, ap, ◌∙◌}
use mathlib.Core.Bool.{Bool, true, false, cond}
use mathlib.Core.List.{List, ◌++◌}
use mathlib.Core.Logic.{◌⊎◌, inl, inr}
use Prim.Native.Nat.{ℕ, zero, suc, ◌+◌, ◌-◌, ◌*◌, ◌≤◌, ◌<◌}
use native.Mathlib.Nat.{eq-or-lt_of_le, zero-mul, suc-mul}
use native.Mathlib.Numerals.{add-one}
use native.Mathlib.Omega.{arith}
use lib.IntN.{ℤ}
use lib.Signed.{lt_z, ◌≤ℤ◌}
use lib.Ieee.{Float}
use lib.ListN.{length, drop, length-append}
use Rattle.laws.specs.Rows.{row_of, set_row}
use Rattle.laws.proofs.Parts.{set_row_next}
use Rattle.laws.proofs.Made.{length_tabulate}
use Rattle.std.proofs.lemmas.Int.{ints}
use Rattle.factor.specs.Vectors.{unit}
use Rattle.local_search.specs.Level.{below}
use Rattle.local_search.proofs.Better.{better_kept}
use Rattle.local_search.specs.Children.{parent_of, better}
use Rattle.rounding.specs.Rounding.{rounded_sign, draw_signs, signs_of, rounded_sols, first_least}

pick : {A : Type 0} (g : ℕ → A) (b : Bool) (x y : ℕ) → cond b (g x) (g y) ≡ g (cond b x y)
pick g true x y = refl
pick g false x y = refl

pub least_next : (f : ℕ → ℤ) (g : ℕ → List ℕ) (k : ℕ) (least : ℤ) (best : List ℕ) → least ≡ f (first_least f k) → best ≡ g (first_least f k)
    → better (parent_of least best) (parent_of (f (k + 1)) (g (k + 1))) ≡ parent_of (f (first_least f (k + 1))) (g (first_least f (k + 1)))
unfolding first_least below
least_next f g k least best e h = rw (add-one, e, h) (pick (λ (j : ℕ). parent_of (f j) (g j)) (lt_z (f (suc k)) (f (first_least f k))) (suc k) (first_least f k))

-- the same of the turn that comes to draw k, whose objective and row these are, by what `keep_better` keeps
pub least_step : (f : ℕ → ℤ) (g : ℕ → List ℕ) (k : ℕ) {least objective r : ℤ} {best row kept : List ℕ} → 1 ≤ k → least ≡ f (first_least f (k - 1)) → best ≡ g (first_least f (k - 1))
    → objective ≡ f k → row ≡ g k → r ≡ cond (lt_z objective least) objective least → kept ≡ cond (lt_z objective least) row best
    → parent_of r kept ≡ parent_of (f (first_least f k)) (g (first_least f k))
least_step f g k {least = least} {objective = objective} {best = best} {row = row} p e h o w r q =
    let back : k - 1 + 1 ≡ k = omega arith in
    let turn = least_next f g (k - 1) least best e h in
    better_kept least objective best row r q ∙ rw (o, w) (rw back at turn)

-- what it is
module _ (f : ℕ → ℤ) where
  pub least_within : (n : ℕ) → first_least f n ≤ n
  unfolding first_least
  least_within zero = omega arith
  least_within (suc n) = go (lt_z (f (suc n)) (f (first_least f n))) (least_within n)
    where
      go : (b : Bool) → first_least f n ≤ n → cond b (suc n) (first_least f n) ≤ suc n
      go true h = omega arith
      go false h = omega arith

  pub least_least : (n j : ℕ) → j ≤ n → f (first_least f n) ≤ℤ f j
  unfolding first_least
  least_least zero zero h = omega (arith, ints)
  least_least zero (suc j) h = absurd (omega arith)
  least_least (suc n) j h =
      go (lt_z (f (suc n)) (f (first_least f n))) refl (eq-or-lt_of_le h) (λ l. least_least n j l)
    where
      go : (b : Bool) → lt_z (f (suc n)) (f (first_least f n)) ≡ b → (j ≡ suc n) ⊎ (j < suc n) → (j ≤ n → f (first_least f n) ≤ℤ f j)
          → f (cond b (suc n) (first_least f n)) ≤ℤ f j
      go true e (inl s) ih = rw s (omega (arith, ints))
      go true e (inr l) ih = omega (arith, ints, ih (omega arith))
      go false e (inl s) ih = rw s (omega (arith, ints))
      go false e (inr l) ih = ih (omega arith)

  pub least_first : (n j : ℕ) → j < first_least f n → f j ≤ℤ f (first_least f n) → ⊥
  unfolding first_least
  least_first zero j h l = omega arith
  least_first (suc n) j h l =
      go (lt_z (f (suc n)) (f (first_least f n))) refl (least_first n j) (λ k. least_least n j k) h l
    where
      go : (b : Bool) → lt_z (f (suc n)) (f (first_least f n)) ≡ b → (j < first_least f n → f j ≤ℤ f (first_least f n) → ⊥)
          → (j ≤ n → f (first_least f n) ≤ℤ f j)
          → j < cond b (suc n) (first_least f n) → f j ≤ℤ f (cond b (suc n) (first_least f n)) → ⊥
      go true e ih all h l = omega (arith, ints, all (omega arith))
      go false e ih all h l = ih h l

-- a draw's signs are m
pub length_signs_of : (factor : List Float) (rank m : ℕ) (draws : List Float) (k : ℕ) → length (signs_of factor rank m draws k) ≡ m
unfolding draw_signs
length_signs_of factor rank m draws k = length_tabulate (rounded_sign factor rank (unit (row_of rank draws k))) m

length_sols : (factor : List Float) (rank m : ℕ) (draws : List Float) (k : ℕ) → length (rounded_sols factor rank m draws k) ≡ k * m
unfolding rounded_sols
length_sols factor rank m draws zero = sym (zero-mul m)
length_sols factor rank m draws (suc k) =
    rw (length-append, length_sols factor rank m draws k, length_signs_of factor rank m draws k, suc-mul)

-- the turn of a loop that has written the first k draws' signs over out, which now is ys
pub sols_next : (factor : List Float) (rank m : ℕ) (draws : List Float) (k : ℕ) (out ys : List ℕ)
    → ys ≡ rounded_sols factor rank m draws k ++ drop (k * m) out
    → set_row m ys k (signs_of factor rank m draws k) ≡ rounded_sols factor rank m draws (k + 1) ++ drop ((k + 1) * m) out
unfolding rounded_sols
sols_next factor rank m draws k out ys e =
    set_row_next m k (rounded_sols factor rank m draws k) (signs_of factor rank m draws k) out ys
    (length_sols factor rank m draws k) (length_signs_of factor rank m draws k) e
    ∙ sym (ap (λ (n : ℕ). rounded_sols factor rank m draws n ++ drop ((k + 1) * m) out) (add-one k))
