-- Where every wagon is free, the reduced (H, c) is (H, c) itself, entry for entry, the constant is 0, and a lifted choice is the choice.
-- Assumes nothing.
--     rows_all, cols_all, values_all, count_all    the entries
--     costs_all, constant_all, lifted_all          the linear costs, the constant, a choice
use mathlib.Core.Path.{◌≡◌, refl, sym, ◌∙◌, ap, ap₂}
use mathlib.Core.Bool.{Bool, true}
use mathlib.Core.List.{List, ◌++◌}
use Prim.Native.Nat.{ℕ, zero, suc, ◌<◌, ◌≤◌}
use native.Mathlib.Omega.{arith}
use lib.ListN.{length}
use lib.IntN.{ℤ, pos, ◌+ℤ◌, ◌*ℤ◌, +ℤ_idr, *ℤ-zero}
use Rattle.laws.specs.Lists.{elem, tabulate, kept, only_if}
use Rattle.laws.proofs.Made.{length_tabulate, get_d_tabulate, tabulate_ext, tabulate_get_d, tabulate_whole}
use Rattle.laws.proofs.Sums.{sum_ext, sum_zero, sum₂_ext, sum₂_zero}
use Rattle.tables.specs.Table.{Table, InRange, Rising, value_at}
use Rattle.tables.specs.Stored.{rows_of, cols_of, values_of}
use Rattle.tables.specs.Cost.{cost_eighths}
use Rattle.reduced.specs.Submatrix.{value_in, reduced_places}
use Rattle.pinned.specs.Pinned.{is_free, free_of, held_byte, held_at, place_of, beside_held, free_costs, held_cost, lifted}
use Rattle.pinned.proofs.Lifting.{length_lifted, lifted_free}
use Rattle.pinned.proofs.Renumber.{among_free, place_back, rows_free, cols_free, values_free, many_free}

-- ---- every wagon is free

kept_all : {A : Type 0} (keep : ℕ → Bool) (f : ℕ → A) (n : ℕ) → ((i : ℕ) → i < n → keep i ≡ true) → kept keep f n ≡ tabulate f n
unfolding kept tabulate
kept_all keep f zero h = refl
kept_all keep f (suc n) h = ap₂ ◌++◌ (kept_all keep f n (λ i l. h i (omega arith))) (ap (λ t. only_if t (f n)) (h n (omega arith)))

module _ (n : ℕ) (states : List ℕ) (free : (i : ℕ) → i < n → is_free states i ≡ true) where
  pub free_all : free_of n states ≡ tabulate (λ i. i) n
  unfolding free_of
  free_all = kept_all (is_free states) (λ i. i) n free

  pub many_all : length (free_of n states) ≡ n
  many_all = ap length free_all ∙ length_tabulate (λ i. i) n

  same_all : (i : ℕ) → i < n → elem (free_of n states) i ≡ i
  same_all i l = ap (λ xs. elem xs i) free_all ∙ get_d_tabulate (λ i. i) n i 0 l

  held_none : (i : ℕ) → i < n → held_at states i ≡ pos 0
  unfolding held_byte
  held_none i l = rw (free i l)

  module _ {h : Table} (small : n ≤ 65536) (r : InRange n h) (ri : Rising h) where
    entry_all : (l : ℕ) → l < h.count → among_free h states l ≡ true
    entry_all l b = rw (free (h.row l) (r.rows_in l b), free (h.column l) (r.cols_in l b))

    place_all : (i : ℕ) → i < n → place_of states i ≡ i
    place_all i l = ap (place_of states) (sym (same_all i l)) ∙ place_back n states i (omega (arith, many_all))

    pub count_all : length (reduced_places h (free_of n states)) ≡ h.count
    count_all =
        many_free small r ri states ∙ ap length (kept_all (among_free h states) h.value h.count entry_all) ∙ length_tabulate h.value h.count

    places_all : (index : ℕ → ℕ) → ((l : ℕ) → l < h.count → index l < n) → kept (among_free h states) (λ l. place_of states (index l)) h.count ≡ tabulate index h.count
    places_all index low =
        kept_all (among_free h states) _ h.count entry_all ∙ tabulate_ext _ index h.count (λ l b. place_all (index l) (low l b))

    pub rows_all : rows_of (reduced_places h (free_of n states)) ≡ tabulate h.row h.count
    rows_all = rows_free small r ri states ∙ places_all h.row r.rows_in

    pub cols_all : cols_of (reduced_places h (free_of n states)) ≡ tabulate h.column h.count
    cols_all = cols_free small r ri states ∙ places_all h.column r.cols_in

    pub values_all : values_of (value_in h (free_of n states)) (reduced_places h (free_of n states)) ≡ tabulate h.value h.count
    values_all = values_free small r ri states ∙ kept_all (among_free h states) h.value h.count entry_all

  module _ (h : Table) (c : ℕ → ℤ) where
    beside_all : (i : ℕ) → beside_held n h c states i ≡ c i
    unfolding beside_held
    beside_all i =
        ap (λ z. c i +ℤ z) (sum_ext n _ (λ j. pos 0) (λ j l. ap (λ z. value_at h i j *ℤ z) (held_none j l) ∙ *ℤ-zero (value_at h i j)) ∙ sum_zero n) ∙ +ℤ_idr (c i)

    pub costs_all : free_costs n h c states ≡ tabulate c n
    unfolding free_costs
    costs_all =
        ap (tabulate (λ k. beside_held n h c states (elem (free_of n states) k))) many_all
        ∙ tabulate_ext _ _ n (λ k l. beside_all (elem (free_of n states) k) ∙ ap c (same_all k l))

    pub constant_all : held_cost n h c states ≡ pos 0
    unfolding held_cost cost_eighths
    constant_all =
        ap₂ (λ u v. pos 4 *ℤ u +ℤ pos 8 *ℤ v)
        (sum₂_ext n _ (λ i j. pos 0) (λ i j a b. ap₂ (λ x y. value_at h i j *ℤ (x *ℤ y)) (held_none i a) (held_none j b) ∙ *ℤ-zero (value_at h i j)) ∙ sum₂_zero n)
        (sum_ext n _ (λ i. pos 0) (λ i a. ap (λ x. c i *ℤ x) (held_none i a) ∙ *ℤ-zero (c i)) ∙ sum_zero n)

  pub lifted_all : (b : List ℕ) → n ≤ length states → length b ≡ n → lifted n states b ≡ b
  lifted_all b long size =
      tabulate_get_d (lifted n states b) n 0 (elem b) (length_lifted n states b long) (λ i l.
      ap (elem (lifted n states b)) (sym (same_all i l)) ∙ lifted_free n states b long i (omega (arith, many_all)))
      ∙ tabulate_whole b n 0 size
