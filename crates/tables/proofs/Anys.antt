-- What the library's `any` finds in a range, by `any_below`.
--     any_front     the first place apart
--     any_ext       the same where the tests answer alike
--     any_ranged    over the numbers below n, with a closure that answers p
-- Assumes nothing.
use Prim.Native.Nat.{ℕ, zero, suc, ◌+◌, ◌<◌}
use mathlib.Core.Bool.{Bool, true, false, cond, ◌||◌}
use mathlib.Core.Path.{◌≡◌, refl, ap, ap₂, sym, ◌∙◌}
use native.Mathlib.Omega.{arith}
use Rattle.std.specs.Prelude.{List, Option, MatchOption}
use Rattle.std.specs.List.{list_any, range_with_len, FoldsTo}
use Rattle.std.specs.Fn.{Mut, Called}
use Rattle.std.specs.Iterator.{YieldsThen}
use Rattle.std.specs.declared.ops.Range.{Range}
use Rattle.std.proofs.iter.Yields.{nat_range_steps}
use Rattle.std.proofs.lemmas.Iterator.{YieldsList-from_range}
use Rattle.std.proofs.lemmas.Iterator.Search.{any_from_yields_List}
use Rattle.laws.specs.Lists.{any_below}

pub any_front : (n : ℕ) (p : ℕ → Bool) → any_below (suc n) p ≡ (p 0 || any_below n (λ k. p (suc k)))
unfolding any_below
any_front zero p = last (p 0)
  where
    last : (a : Bool) → cond a true false ≡ (a || false)
    last true = refl
    last false = refl
any_front (suc n) p = ap (λ t. cond (p (suc n)) true t) (any_front n p) ∙ swap (p (suc n)) (p 0) (any_below n (λ k. p (suc k)))
  where
    swap : (a b t : Bool) → cond a true (b || t) ≡ (b || cond a true t)
    swap true true t = refl
    swap true false t = refl
    swap false b t = refl

pub any_ext : (n : ℕ) (p q : ℕ → Bool) → ((k : ℕ) → k < n → p k ≡ q k) → any_below n p ≡ any_below n q
unfolding any_below
any_ext zero p q e = refl
any_ext (suc n) p q e = ap₂ (λ a t. cond a true t) (e n (omega arith)) (any_ext n p q (λ k h. e k (omega arith)))

from : (p : ℕ → Bool) (a n : ℕ) → list_any p (range_with_len a n) ≡ any_below n (λ k. p (a + k))
unfolding any_below
from p a zero = refl
from p a (suc n) =
    ap₂ (λ x t. x || t) (ap p (omega arith)) (from p (a + 1) n ∙ any_ext n (λ k. p (a + 1 + k)) (λ k. p (a + suc k)) (λ k h. ap p (omega arith)))
    ∙ sym (any_front n (λ k. p (a + k)))

-- what `any` answers there
pub any_ranged : {F : Type 0} {g : Mut F (ℕ × Unit {0}) Bool} {u : Range ℕ} {f : F} {r : Bool} (p : ℕ → Bool) (n : ℕ)
    → (xs : List ℕ) × (o : Option ℕ) × (j : F) × YieldsThen nat_range_steps (record { start = 0; end = n }) xs o u × FoldsTo (λ a k b. Called g a (k, tt) false b) f xs j
    × MatchOption o (r ≡ false) (λ k. (r ≡ true) × ((h : F) × Called g j (k, tt) true h))
    → ((k : ℕ) (b : Bool) (q : F) → Called g f (k, tt) b q → (q ≡ f) × (b ≡ p k)) → r ≡ any_below n p
any_ranged p n ran asks =
    any_from_yields_List p _ _ _ ran (YieldsList-from_range 0 n n refl (omega arith)) asks ∙ from p 0 n ∙ any_ext n (λ k. p (0 + k)) p (λ k h. ap p (omega arith))
