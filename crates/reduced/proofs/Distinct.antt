-- Indices of which none is outside and none twice: how the code finds it, and what it gives.
-- Assumes nothing.
use mathlib.Core.Path.{◌≡◌, refl, sym, ap, ◌∙◌}
use mathlib.Core.Bool.{Bool, true, false, cond, ◌||◌}
use mathlib.Core.List.{List}
use Prim.Native.Nat.{ℕ, zero, suc, ◌+◌, ◌<◌, ◌≤◌, max}
use native.Mathlib.Omega.{arith}
use native.Mathlib.Decide.{dec_lt}
use lib.ListN.{length, get_or, replicate}
use lib.Dec.{eqb, leb, ltb}
use borrow.Author.Tests.{eq-eqb, ne_eqb, eqb-false, ltb-false, leb-false, lt-leb, le-ltb}
use Rattle.std.proofs.Math.Bool.{or_comm}
use Rattle.laws.specs.Lists.{elem, any_below}
use Rattle.laws.specs.Turns.{up_to}
use Rattle.laws.proofs.Any.{below_none, below_at, below_false, below_next, any_head, any_rest, any_not, any_none}
use Rattle.tables.specs.Table.{Table, InRange}
use Rattle.reduced.specs.Indices.{greatest, outside, twice, index_refused, put_each, Within, Once, Mapped}
use Rattle.reduced.proofs.Put.{Last, found, none, put_fresh}

-- ---- 20, part by part

module _ (size : ℕ) (indices : List ℕ) where
  pub outside_within : outside size indices ≡ false → Within size indices
  unfolding outside
  outside_within e = record { below = λ j h. leb-false _ _ (below_false (λ j. leb size (elem indices j)) (length indices) e j h) }

  pub within_outside : Within size indices → outside size indices ≡ false
  unfolding outside
  within_outside w = below_none (λ j. leb size (elem indices j)) (length indices) (λ j h. lt-leb _ _ (w.below j h))

-- the greatest is outside exactly where an index is
module _ (size : ℕ) where
  max_outside : (a b : ℕ) → leb size (max a b) ≡ cond (leb size b) true (leb size a)
  max_outside a b = grind arith

  one_outside : (b : ℕ) → leb size (max 0 b) ≡ cond (leb size b) true false
  one_outside b = grind arith

  most_outside : (index : ℕ → ℕ) (n : ℕ) → leb size (up_to (λ j most. max most (index j)) (suc n) 0) ≡ any_below (suc n) (λ j. leb size (index j))
  unfolding up_to any_below
  most_outside index zero = one_outside (index 0)
  most_outside index (suc n) =
      max_outside (up_to (λ j most. max most (index j)) (suc n) 0) (index (suc n)) ∙ ap (λ b. cond (leb size (index (suc n))) true b) (most_outside index n)

  pub greatest_outside : (indices : List ℕ) → (length indices ≡ 0 → ⊥) → leb size (greatest indices) ≡ outside size indices
  unfolding greatest outside
  greatest_outside indices some = go (length indices) some
    where
      go : (n : ℕ) → (n ≡ 0 → ⊥) → leb size (up_to (λ j most. max most (elem indices j)) n 0) ≡ any_below n (λ j. leb size (elem indices j))
      go zero some = absurd (some refl)
      go (suc n) some = most_outside (elem indices) n

  pub none_outside : (indices : List ℕ) → length indices ≡ 0 → false ≡ outside size indices
  unfolding outside any_below
  none_outside indices e = rw e

pub within_up : {n m : ℕ} {indices : List ℕ} → n ≤ m → Within n indices → Within m indices
within_up h w = record { below = λ j l. omega (arith, w.below j l) }

pub range_up : {n m : ℕ} {t : Table} → n ≤ m → InRange n t → InRange m t
range_up h r = record { rows_in = λ k b. omega (arith, r.rows_in k b); cols_in = λ k b. omega (arith, r.cols_in k b) }

module _ (map : List ℕ) where
  pub twice_once : twice map ≡ false → Once map
  unfolding twice
  twice_once e = record { same = λ i j a b s. go i j a b s (dec_lt i j) (dec_lt j i) }
    where
      never : (i j : ℕ) → i < j → j < length map → elem map i ≡ elem map j → ⊥
      never i j h l s =
          eqb-false _ _ (below_false (λ i. eqb (elem map i) (elem map j)) j (below_false (λ j. any_below j (λ i. eqb (elem map i) (elem map j))) (length map) e j l) i h) s

      go : (i j : ℕ) → i < length map → j < length map → elem map i ≡ elem map j → Dec (i < j) → Dec (j < i) → i ≡ j
      go i j a b s (yes h) d = absurd (never i j h b s)
      go i j a b s (no h) (yes k) = absurd (never j i k a (sym s))
      go i j a b s (no h) (no k) = omega arith

  pub once_twice : Once map → twice map ≡ false
  unfolding twice
  once_twice o =
      below_none (λ j. any_below j (λ i. eqb (elem map i) (elem map j))) (length map)
      (λ j h. below_none (λ i. eqb (elem map i) (elem map j)) j (λ i l. ne_eqb (elem map i) (elem map j) (λ s. omega (arith, o.same i j (omega arith) h s))))

  -- the marks that the first j indices left, at the next one
  module _ {size : ℕ} (w : Within size map) (j : ℕ) (h : j < length map) {seen : List Bool} {index : ℕ}
      (marks : seen ≡ put_each (elem map) (λ _. true) j (replicate size false)) (here : index ≡ elem map j) where
    mark : Last (elem map) (λ _. true) j (elem map j) false (get_or seen index false)
    mark = rw here (put_fresh (elem map) (λ _. true) j size (elem map j) false false (w.below j h) marks)

    pub twice_next : {twice : Bool} → twice ≡ any_below j (λ k. any_below k (λ i. eqb (elem map i) (elem map k)))
        → twice || get_or seen index false ≡ any_below (j + 1) (λ k. any_below k (λ i. eqb (elem map i) (elem map k)))
    twice_next {twice} e = go mark ∙ below_next (λ k. any_below k (λ i. eqb (elem map i) (elem map k))) j twice e
      where
        go : {y : Bool} → Last (elem map) (λ _. true) j (elem map j) false y → twice || y ≡ cond (any_below j (λ i. eqb (elem map i) (elem map j))) true twice
        go (found i b e rest) = rw (below_at (λ i. eqb (elem map i) (elem map j)) j i b (eq-eqb _ _ e)) (or_comm twice true)
        go (none rest) = rw (below_none (λ i. eqb (elem map i) (elem map j)) j (λ i l. ne_eqb _ _ (rest i l))) (or_comm twice false)

-- ---- 20 whole

module _ {most size : ℕ} {map fixed : List ℕ} where
  pub index_mapped : index_refused most size map fixed ≡ false → Mapped most size map fixed
  unfolding index_refused
  index_mapped e =
      let e₁ = any_rest (ltb most size) _ e in
      let e₂ = any_rest (outside size map) _ e₁ in
      let e₃ = any_rest (twice map) _ e₂ in
      record {
        small = ltb-false _ _ (any_head (ltb most size) _ e);
        map_within = outside_within size map (any_head (outside size map) _ e₁);
        map_once = twice_once map (any_head (twice map) _ e₂);
        fixed_within = outside_within size fixed (any_head (outside size fixed) _ e₃);
      }

  pub mapped_index : Mapped most size map fixed → index_refused most size map fixed ≡ false
  unfolding index_refused
  mapped_index m =
      any_not _ _ (le-ltb _ _ m.small)
      (any_not _ _ (within_outside size map m.map_within)
      (any_not _ _ (once_twice map m.map_once) (any_not _ _ (within_outside size fixed m.fixed_within) any_none)))
