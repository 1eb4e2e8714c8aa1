-- Demand 3 of the reduced (H, c) gives demand 3 among the choices that keep the held wagons.
--     differ_free      which choices differ in the free wagons
--     pinned_demand3   from demand 3 of the reduced (H, c), the constant added
--     pinned_finish    of whatever an accepted finish on the reduced (H, c) leaves, lifted to all wagons
-- Assumes nothing.
use Prim.Native.Nat.{ℕ, zero, suc, ◌≤◌, ◌<◌}
use native.Mathlib.Omega.{arith}
use mathlib.Core.Bool.{Bool, true, false}
use mathlib.Core.List.{List}
use mathlib.Core.Path.{◌≡◌, refl, sym, ap, ◌∙◌, subst₂}
use borrow.Author.Tests.{ltb-true, ltb-false}
use lib.IntN.{ℤ, ◌+ℤ◌, ◌-ℤ◌}
use lib.Ieee.{Float}
use lib.ListN.{length, take}
use lib.Seq.{get_or-take}
use lib.Signed.{◌≤ℤ◌}
use Rattle.laws.specs.Turns.{up_to}
use Rattle.laws.specs.Lists.{elem}
use Rattle.std.proofs.lemmas.Int.{ints}
use Rattle.laws.proofs.Integer.{parts, differences, ring}
use Rattle.tables.specs.Table.{Table, value_at}
use Rattle.tables.specs.Cost.{bit, choice_at}
use Rattle.tables.specs.Check.{Hall}
use Rattle.tables.proofs.Choices.{cost_ext}
use Rattle.tables.proofs.Mirrors.{hall_symmetric}
use Rattle.reduced.specs.Indices.{put_each}
use Rattle.finalize.specs.Finalize.{cost_of}
use Rattle.finalize.specs.Demand3.{DifferInOne, Demand3}
use Rattle.finalize.specs.Clauses.{Finalizes}
use Rattle.finalize.proofs.Demand3.{demand3}
use Rattle.pinned.specs.Pinned.{is_free, free_of, free_table, free_cost, held_cost, lifted, free_part, Keeps}
use Rattle.pinned.proofs.Free.{free_map, free_once}
use Rattle.pinned.proofs.Lifting.{lifted_free, lifted_held, part_choice, keeping_cost}
use Rattle.pinned.proofs.Costs.{reduce_cost}
use Rattle.pinned.proofs.Halls.{reduce_hall}
use Rattle.pinned_demand.specs.PinnedDemand3.{DifferInFree, free_count, PinnedDemand3}

-- ---- whatever differs in every wagon of a state above 1, and in no other, is meant

pub differ_free : (n : ℕ) (states b b' : List ℕ) → ((i : ℕ) → i < n → 1 < elem states i → choice_at b i ≡ choice_at b' i → ⊥)
    → ((i : ℕ) → i < n → elem states i ≤ 1 → choice_at b i ≡ choice_at b' i) → DifferInFree n states b b'
differ_free n states b b' d s =
    record { differ = λ i l e. d i l (ltb-true 1 (elem states i) e); stay = λ i l e. s i l (ltb-false 1 (elem states i) e) }

-- ---- whole numbers

pub add_le : (a b k : ℤ) → a ≤ℤ b → (a +ℤ k) ≤ℤ (b +ℤ k)
add_le a b k h = omega (arith, ints)

pub same_fall : (a b k : ℤ) → a -ℤ b ≡ (a +ℤ k) -ℤ (b +ℤ k)
same_fall a b k = rw (parts a, parts b, parts k) (simp differences (omega ring))

-- ---- a lifted choice looks at the bytes of the free wagons only

put_same : (index value value' : ℕ → ℕ) (m : ℕ) (l : List ℕ) → ((j : ℕ) → j < m → value j ≡ value' j) → put_each index value m l ≡ put_each index value' m l
unfolding up_to
put_same index value value' zero l e = refl
put_same index value value' (suc m) l e = rw (put_same index value value' m l (λ j h. e j (omega arith)), e m (omega arith))

pub lifted_same : (n : ℕ) (states b : List ℕ) → lifted n states b ≡ lifted n states (take (free_count n states) b)
unfolding lifted
lifted_same n states b =
    put_same (elem (free_of n states)) (elem b) (elem (take (free_count n states) b)) (free_count n states) (take n states) (λ j h. sym (get_or-take (free_count n states) b j 0 h))

-- ---- the theorem

module _ {most capacity limit n : ℕ} {h : Table} {c : ℕ → ℤ} (hall : Hall most capacity limit n h c) (states : List ℕ) (long : n ≤ length states) where
  abbrev f : ℕ
  f = free_count n states

  abbrev H' : Table
  H' = free_table n h states

  abbrev c' : ℕ → ℤ
  c' = free_cost n h c states

  abbrev K : ℤ
  K = held_cost n h c states

  lifted_cost : (b : List ℕ) → cost_of f H' c' b +ℤ K ≡ cost_of n h c (lifted n states b)
  lifted_cost b = reduce_cost n h c states b long (hall_symmetric hall)

  -- a choice that keeps the held wagons costs what its free part costs, and the constant
  pub part_cost : (b : List ℕ) → Keeps n states b → cost_of f H' c' (free_part n states b) +ℤ K ≡ cost_of n h c b
  part_cost b keeps = lifted_cost (free_part n states b) ∙ sym (keeping_cost n h c states b long keeps)

  module _ {rank : ℕ} {factor draws : List Float} {draw_count width : ℕ} {b₀ : List ℕ} {floor rounded cost : ℤ} {rounds : ℕ}
      (d3 : Demand3 f H' c' rank factor draws draw_count width b₀ floor rounded cost rounds)
      (b : List ℕ) (taken : take n b ≡ lifted n states b₀) where
    at : (i : ℕ) → i < n → elem b i ≡ elem (lifted n states b₀) i
    at i l = sym (get_or-take n b i 0 l) ∙ ap (λ xs. elem xs i) taken

    held_byte_lem : (i : ℕ) → i < n → is_free states i ≡ false → elem b i ≡ elem states i
    held_byte_lem i l e = at i l ∙ lifted_held n states b₀ long i l e

    free_byte : (k : ℕ) → k < f → elem b (elem (free_of n states) k) ≡ elem b₀ k
    free_byte k l = at (elem (free_of n states) k) ((free_map n states).below k l) ∙ lifted_free n states b₀ long k l

    low : (i : ℕ) → i < n → elem b i ≤ 1
    low i l = go (is_free states i) refl
      where
        go : (t : Bool) → is_free states i ≡ t → elem b i ≤ 1
        go true e = let (k, a, q) = (free_map n states).has i l e in let eq : elem b i ≡ elem b₀ k = rw q at (free_byte k a) in omega (arith, d3.bytes k a)
        go false e = omega (arith, held_byte_lem i l e, ltb-false 1 (elem states i) e)

    keeps : Keeps n states b
    keeps = record { same = λ i l e. ap bit (held_byte_lem i l e) }

    cost_all : cost +ℤ K ≡ cost_of n h c b
    cost_all = ap (λ z. z +ℤ K) d3.cost_is ∙ lifted_cost b₀ ∙ cost_ext n (value_at h) c (λ i l. ap bit (sym (at i l)))

    -- what keeps the held wagons and does not cost less than b₀ in its free part does not cost less than b
    beside : (b' : List ℕ) → Keeps n states b' → cost ≤ℤ cost_of f H' c' (free_part n states b') → (cost +ℤ K) ≤ℤ cost_of n h c b'
    beside b' k l = subst₂ ◌≤ℤ◌ refl (part_cost b' k) (add_le cost (cost_of f H' c' (free_part n states b')) K l)

    -- free wagon k of b
    this : (k : ℕ) → k < f → choice_at b₀ k ≡ choice_at b (elem (free_of n states) k)
    this k l = ap bit (sym (free_byte k l))

    one : (b' : List ℕ) (d : DifferInOne n b b') → is_free states d.wagon ≡ true → (cost +ℤ K) ≤ℤ cost_of n h c b'
    one b' d free =
        let (k, l, q) = (free_map n states).has d.wagon d.is_one free in
        beside b' (record { same = λ i a e. sym (d.others i a (λ s. cc)) ∙ ap bit (held_byte_lem i a e) })
        (d3.one_wagon (free_part n states b') (record {
          wagon = k;
          is_one = l;
          differs = λ s. d.differs (rw q at (sym (this k l) ∙ s ∙ part_choice n states b' k l));
          others = λ j a ne. this j a ∙ d.others (elem (free_of n states) j) ((free_map n states).below j a) (λ s. ne ((free_once n states).same j k a l (s ∙ sym q))) ∙ sym (part_choice n states b' j a);
        }))

    all : (b' : List ℕ) → DifferInFree n states b b' → (cost +ℤ K) ≤ℤ cost_of n h c b'
    all b' d =
        beside b' (record { same = λ i a e. sym (d.stay i a e) ∙ ap bit (held_byte_lem i a e) })
        (d3.all_wagons (free_part n states b') (record {
          differ = λ j a s. d.differ (elem (free_of n states) j) ((free_map n states).below j a) ((free_map n states).free j a) (sym (this j a) ∙ s ∙ part_choice n states b' j a);
        }))

    pub pinned_demand3 : PinnedDemand3 n h c states rank factor draws draw_count width b (floor +ℤ K) (rounded +ℤ K) (cost +ℤ K) rounds
    pinned_demand3 =
        record {
          bytes = low;
          keeps = keeps;
          answer = taken ∙ lifted_same n states b₀ ∙ ap (lifted n states) d3.answer;
          cost_is = cost_all;
          one_wagon = one;
          all_wagons = all;
          draws_cost = λ k l. subst₂ ◌≤ℤ◌ refl (lifted_cost _) (add_le cost _ K (d3.draws_cost k l));
          floor_is = ap (λ z. z +ℤ K) d3.floor_is;
          floor_under = λ b' k. subst₂ ◌≤ℤ◌ refl (part_cost b' k) (add_le floor _ K (d3.floor_under (free_part n states b')));
          rounds_are = d3.rounds_are;
          rounded_is = ap (λ z. z +ℤ K) d3.rounded_is ∙ lifted_cost _;
          rounds_few = rw (← (same_fall rounded cost K)) d3.rounds_few;
        }

-- ---- of whatever an accepted finish on the reduced (H, c) leaves, lifted to all wagons

pub pinned_finish : {most capacity limit n : ℕ} {h : Table} {c : ℕ → ℤ} → Hall most capacity limit n h c → (states : List ℕ) → n ≤ length states
    → (rank : ℕ) (factor draws : List Float) (draw_count width : ℕ) → 1 ≤ width → {b b₀ : List ℕ} {multipliers multipliers' : List Float} {diagonal bound : Float} {floor rounded cost : ℤ} {rounds : ℕ}
    → Finalizes (free_count n states) (free_table n h states) (free_cost n h c states) rank width draw_count draws factor b b₀ multipliers multipliers' diagonal bound floor rounded cost rounds
    → (b' : List ℕ) → take n b' ≡ lifted n states b₀
    → PinnedDemand3 n h c states rank factor draws draw_count width b' (floor +ℤ held_cost n h c states) (rounded +ℤ held_cost n h c states) (cost +ℤ held_cost n h c states) rounds
pinned_finish hall states long rank factor draws draw_count width some finish b' taken =
    pinned_demand3 hall states long (demand3 (reduce_hall hall states) rank factor draws draw_count width some finish) b' taken
