-- Which wagons a list names, and what is meant by two choices that differ in the house.
--     is_named, unnamed, named_at   a list names its wagons and no other
--     any_indexed, any_taken        what `any` finds in a list, and in the front of one
--     differ_house                  whatever differs in every wagon but the pinned ones is meant
-- Assumes nothing.
use Prim.Native.Nat.{ℕ, ◌<◌, ◌≤◌}
use borrow.Author.Tests.{eq-eqb, ne_eqb, eqb-true}
use mathlib.Core.Bool.{Bool, true, false, ◌||◌}
use mathlib.Core.List.{List, [], ◌∷◌}
use mathlib.Core.Path.{◌≡◌, refl, sym, ap, ◌∙◌}
use lib.Dec.{eqb}
use lib.ListN.{length, take}
use lib.Seq.{length-take-le, get_or-take}
use Rattle.std.specs.List.{list_any}
use Rattle.laws.specs.Lists.{elem, any_below}
use Rattle.laws.proofs.Any.{below_at, below_none, below_true}
use Rattle.tables.specs.Cost.{choice_at}
use Rattle.tables.proofs.Anys.{any_front, any_ext}
use Rattle.block_search.specs.Blocks.{BlockCall, named}
use Rattle.block_search.specs.Call.{DifferInHouse}

-- what the library's `any` finds, by index
pub any_indexed : (p : ℕ → Bool) (xs : List ℕ) → list_any p xs ≡ any_below (length xs) (λ k. p (elem xs k))
unfolding any_below
any_indexed p [] = refl
any_indexed p (x ∷ xs) = ap (λ t. p x || t) (any_indexed p xs) ∙ sym (any_front (length xs) (λ k. p (elem (x ∷ xs) k)))

pub any_taken : (p : ℕ → Bool) (n : ℕ) (xs : List ℕ) → n ≤ length xs → list_any p (take n xs) ≡ any_below n (λ k. p (elem xs k))
any_taken p n xs h =
    any_indexed p (take n xs) ∙ ap (λ m. any_below m (λ k. p (elem (take n xs) k))) (length-take-le n xs h)
    ∙ any_ext n (λ k. p (elem (take n xs) k)) (λ k. p (elem xs k)) (λ k l. ap p (get_or-take n xs k 0 l))

pub is_named : (list : List ℕ) (i k : ℕ) → k < length list → elem list k ≡ i → named list i ≡ true
unfolding named
is_named list i k l e = below_at (λ j. eqb (elem list j) i) (length list) k l (eq-eqb (elem list k) i e)

pub unnamed : (list : List ℕ) (i : ℕ) → ((k : ℕ) → k < length list → elem list k ≡ i → ⊥) → named list i ≡ false
unfolding named
unnamed list i away = below_none (λ j. eqb (elem list j) i) (length list) (λ k l. ne_eqb (elem list k) i (away k l))

pub named_at : (list : List ℕ) (i : ℕ) → named list i ≡ true → (k : ℕ) × (k < length list) × (elem list k ≡ i)
unfolding named
named_at list i e = let (k, l, q) = below_true (λ j. eqb (elem list j) i) (length list) e in (k, l, eqb-true (elem list k) i q)

pub differ_house : (q : BlockCall) (b b' : List ℕ)
    → ((i : ℕ) → i < q.n → ((k : ℕ) → k < length q.pinned → elem q.pinned k ≡ i → ⊥) → choice_at b i ≡ choice_at b' i → ⊥)
    → ((k : ℕ) → k < length q.pinned → choice_at b (elem q.pinned k) ≡ choice_at b' (elem q.pinned k)) → DifferInHouse q b b'
differ_house q b b' d s = record {
  differ = λ i l e. d i l (λ k a w. cc (is_named q.pinned i k a w));
  stay = λ i l e. let (k, a, w) = named_at q.pinned i e in rw (← w) (s k a);
}
