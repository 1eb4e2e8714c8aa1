-- A sum over the numbers below n, as an iterator makes it: what it has added at each point fits, and the whole is the sum.
use mathlib.Core.Path.{◌≡◌, refl, sym, ap, subst, ◌∙◌}
use mathlib.Core.List.{List, [], ◌∷◌, ◌++◌, map, map-id}
use Prim.Native.Nat.{ℕ, zero, suc, ◌+◌, ◌≤◌, ◌<◌, min}
use native.Mathlib.Omega.{arith}
use native.Mathlib.Numerals.{add-one}
use lib.ListN.{length, take, length-take}
use lib.IntN.{ℤ, pos, ◌+ℤ◌}
use mir.Syntax.{w64}
use mir.Val.{SFits}
use Rattle.std.specs.Prelude.{Option, Some, ⊤}
use Rattle.std.specs.List.{fold, sum_by, range_with_len}
use Rattle.std.specs.Fn.{Mut, Called, Takes}
use Rattle.std.specs.Iterator.{Yields, Drains, FoldTurn, CallableInFold, FoldsItems}
use Rattle.std.specs.Iterator.Runs.{EachRunFrom, YieldsRun}
use Rattle.std.specs.Iterator.Adapters.{map_source, map_callee}
use Rattle.std.specs.declared.iter.Map.{Map}
use Rattle.std.specs.declared.ops.Range.{Range}
use Rattle.std.proofs.iter.Yields.{nat_range_steps}
use Rattle.std.proofs.lemmas.Iterator.{YieldsList, YieldsList-from_range, maps, items_from_drains}
use Rattle.std.proofs.lemmas.Iterator.Consumers.{YieldsList-so_far, YieldsList-turn}
use Rattle.std.proofs.lemmas.Fn.{serves_by, fold_over}
use Rattle.std.proofs.lemmas.List.Sums.{fold-append, sum_by-append}
use Rattle.std.proofs.lemmas.List.FromFn.{length-map-range_with_len, take-map-range_with_len, map-range_with_len_more, sum_by-map-range_with_len_more, length-range_with_len, get_or-range_with_len}
use Rattle.laws.specs.Sum.{sum, total}
use Rattle.std.proofs.lemmas.Int.{fits_signed_from_abs}
use Rattle.laws.proofs.Sums.{Held}
use Rattle.laws.proofs.Ranged.{ranged_map}

fold_sum : (n : ℕ) (f : ℕ → ℤ) → fold ◌+ℤ◌ (pos 0) (map f (range_with_len 0 n)) ≡ sum n f
unfolding sum
fold_sum zero f = refl
fold_sum (suc n) f = ap (λ k. fold ◌+ℤ◌ (pos 0) (map f (range_with_len 0 k))) (sym (add-one n)) ∙ ap (fold ◌+ℤ◌ (pos 0)) (map-range_with_len_more f 0 n n (omega arith)) ∙ fold-append ◌+ℤ◌ (pos 0) (map f (range_with_len 0 n)) (f n ∷ []) ∙ rw (fold_sum n f)

held_to : {n : ℕ} {f : ℕ → ℤ} → Held n f → (k : ℕ) → k ≤ n → SFits w64 (sum k f)
unfolding sum
held_to held zero h = fits_signed_from_abs w64 (pos 0) (omega arith)
held_to held (suc k) h = held.next k (omega arith)

module _ {F : Type 0} {g : Mut F (ℕ × Unit {0}) ℤ} {s : Map (Range ℕ) F} {c : F} (n : ℕ) (f : ℕ → ℤ) (source : map_source s ≡ record { start = 0; end = n }) (callee : map_callee s ≡ c)
    (closure : (k : ℕ) (r : ℤ) (q : F) → Called g c (k, tt) r q → (q ≡ c) × (r ≡ f k)) where
  abbrev steps : Map (Range ℕ) F → Option ℤ → Map (Range ℕ) F → Type 0
  steps = maps nat_range_steps g

  e : YieldsList steps (λ x. x) s (map f (range_with_len 0 n))
  e = ranged_map n f source callee closure

  pub sum_fits : Held n f → EachRunFrom steps s (λ p. SFits w64 (fold ◌+ℤ◌ (pos 0) p.items))
  unfolding YieldsRun
  sum_fits held = λ p _ at. fits p.items (sym (map-id p.items) ∙ YieldsList-so_far e p.items p.gave.0.0 (subst (λ u. Yields steps u p.items p.gave.0.0) at p.gave.0.1))
    where
      fits : (xs : List ℤ) → xs ≡ take (length xs) (map f (range_with_len 0 n)) → SFits w64 (fold ◌+ℤ◌ (pos 0) xs)
      fits xs so =
          let k : length xs ≤ n = omega (arith, ap length so, length-take (length xs) (map f (range_with_len 0 n)), length-map-range_with_len f 0 n) in
          subst (SFits w64) (sym (ap (fold ◌+ℤ◌ (pos 0)) (so ∙ take-map-range_with_len f 0 n (length xs) k) ∙ fold_sum (length xs) f)) (held_to held (length xs) k)

  pub sum_is : (r : ℤ) → ((xs : List ℤ) × (⊤ → Drains steps s xs) × (r ≡ fold ◌+ℤ◌ (pos 0) xs)) → r ≡ sum n f
  sum_is r d = d.2 ∙ ap (fold ◌+ℤ◌ (pos 0)) (whole (d.1 tt)) ∙ fold_sum n f
    where
      whole : Drains steps s d.0 → d.0 ≡ map f (range_with_len 0 n)
      whole (u, (t, y, p)) = sym (map-id d.0) ∙ items_from_drains d.0 (t, y, λ _. (u, p)) e

-- ---- a sum with a cap, as `fold` makes it: it is at most the cap at each turn, and in the end the whole, or the cap if that is less

sum_by_range : (n : ℕ) (f : ℕ → ℕ) → sum_by f (range_with_len 0 n) ≡ total n f
unfolding total
sum_by_range zero f = refl
sum_by_range (suc n) f =
    ap (λ k. sum_by f (range_with_len 0 k)) (sym (add-one n))
    ∙ ap (sum_by f) (sym (map-id (range_with_len 0 (n + 1)))) ∙ sum_by-map-range_with_len_more f (λ x. x) 0 n n (omega arith)
    ∙ ap (λ xs. sum_by f xs + f n) (map-id (range_with_len 0 n)) ∙ ap (λ s. s + f n) (sum_by_range n f)

module _ {F : Type 0} {g : Mut F (ℕ × (ℕ × Unit {0})) ℕ} {c : F} (n : ℕ) (f : ℕ → ℕ) (cap : ℕ)
    (turn : (a k b : ℕ) (h : F) → Called g c (a, (k, tt)) b h → (b ≡ min (a + f k) cap) × (h ≡ c)) where
  abbrev s : Range ℕ
  s = record { start = 0; end = n }

  whole : YieldsList nat_range_steps (λ x. x) s (range_with_len 0 n)
  whole = YieldsList-from_range 0 n n refl (omega arith)

  Capped : List ℕ → ℕ → Type 0
  Capped xs a = a ≡ min (sum_by f xs) cap

  more : (xs : List ℕ) (a x b : ℕ) → Capped xs a → b ≡ min (a + f x) cap → Capped (xs ++ (x ∷ [])) b
  unfolding Capped
  more xs a x b j is = omega (arith, j, is, sum_by-append f xs (x ∷ []))

  pub fold_callable : ((a k : ℕ) → a ≤ cap → k < n → Takes g c (a, (k, tt))) → CallableInFold nat_range_steps g s c 0
  unfolding Capped
  fold_callable asks = serves_by (FoldTurn g) (λ xs p. Capped xs p.1 × (p.0 ≡ c))
      (λ xs q x w j r. let t = turn q.1 x w.1 w.0 (subst (λ h. Called g h (q.1, (x, tt)) w.1 w.0) j.1 r) in (more xs q.1 x w.1 j.0 t.0, t.1))
      nat_range_steps (λ p x. Takes g p.0 (p.1, (x, tt))) s (c, 0) (omega arith, refl)
      (λ xs t q x u y at j.
      let m = YieldsList-turn whole xs t y (Some x) u x refl at in
      let k : x < n = omega (arith, m.0, m.1, length-range_with_len 0 n, get_or-range_with_len 0 n (length xs) x) in
      subst (λ h. Takes g h (q.1, (x, tt))) (sym j.1) (asks q.1 x (omega (arith, j.0)) k))

  pub fold_is : (r : ℕ) → FoldsItems nat_range_steps g s c 0 r → r ≡ min (total n f) cap
  unfolding Capped
  fold_is r ran =
      fold_over nat_range_steps (λ x. x) g Capped c (λ xs a x b h j called. let t = turn a x b h called in (more xs a x b j t.0, t.1)) s (range_with_len 0 n) 0 r whole.runs (omega arith) ran
      ∙ ap (λ k. min k cap) (sum_by_range n f)
