-- Demand 3 holds of every accepted finish of width 1 or more, whatever the factor and the draws.
--     demand3         of whatever an accepted finish leaves
--     rounded_first   the rounded choice is that of the first draw of least cost
--     search_ends     the search's levels end with an empty one, and the search is over exactly these
--     unsearched      with width 0 the rounded choice stands, rounds 0
--     differ_one, differ_all   any choice that differs in one wagon and no other is meant, and any that differs in all
-- Assumes nothing.
use Prim.Native.Nat.{ℕ, zero, suc, ◌-◌, ◌*◌, ◌≤◌, ◌<◌}
use native.Mathlib.Decide.{ℕ_discrete}
use native.Mathlib.Omega.{arith}
use borrow.Author.Tests.{eq-eqb, ne_eqb}
use mathlib.Core.Bool.{Bool, true, false, cond}
use mathlib.Core.List.{List}
use mathlib.Core.Path.{◌≡◌, refl, sym, ap, ◌∙◌, subst₂}
use lib.Dec.{eqb}
use lib.IntN.{ℤ, pos, ◌+ℤ◌, ◌-ℤ◌}
use lib.Ieee.{Float}
use lib.ListN.{length, take, get_or-append}
use lib.Seq.{take_at}
use lib.Signed.{◌≤ℤ◌}
use Rattle.laws.specs.Lists.{elem, over, tabulate}
use Rattle.std.proofs.lemmas.Int.{ints}
use Rattle.laws.proofs.Made.{length_tabulate, get_d_tabulate}
use Rattle.tables.specs.Table.{Table, value_at, same_sign}
use Rattle.tables.specs.Cost.{cost_eighths, decoded_byte, decoded, bit, choice_at}
use Rattle.tables.specs.Check.{Hall}
use Rattle.tables.proofs.Choices.{cost_ext}
use Rattle.sign_table.specs.SignTable.{sign_table}
use Rattle.sign_table.proofs.Theorems.{floor_le_choice}
use Rattle.rounding.specs.Rounding.{signs_of, draw_objective, least_draw, rounded_sol}
use Rattle.rounding.proofs.Least.{least_within, least_least, least_first, length_signs_of}
use Rattle.local_search.specs.LocalSearch as LocalSearch
use Rattle.local_search.specs.LocalSearch.{Levels, found_in}
use Rattle.local_search.specs.Level.{flip_sign}
use Rattle.local_search.specs.SignSearch.{lower, improves, improving, sign_search}
use Rattle.sign_search.specs.Search.{objective_in, change_in, beam_search}
use Rattle.sign_search.specs.Choices.{one_moved, all_moved}
use Rattle.sign_search.proofs.Theorems.{levels_end, search_levels, answer_le, rounds_fall}
use Rattle.sign_search.proofs.HallTheorems.{hall_mirrors, signs_cost, one_wagon, all_wagons}
use Rattle.finalize.specs.Finalize.{choice_of, drawn_choice, cost_of, floor_eighths, rounded_signs, rounded_choice, rounded_cost, search_result, searched_choice, searched_cost, searched_rounds}
use Rattle.finalize.specs.Demand3.{DifferInOne, DifferInAll, Demand3}
use Rattle.finalize.specs.Clauses.{Finalizes}

-- ---- whatever differs in one wagon is meant, and whatever differs in all

pub differ_one : (n : ℕ) (b b' : List ℕ) (i : ℕ) → i < n → (choice_at b i ≡ choice_at b' i → ⊥)
    → ((j : ℕ) → j < n → (j ≡ i → ⊥) → choice_at b j ≡ choice_at b' j) → DifferInOne n b b'
differ_one n b b' i l d o = record { wagon = i; is_one = l; differs = d; others = o }

pub differ_all : (n : ℕ) (b b' : List ℕ) → ((j : ℕ) → j < n → choice_at b j ≡ choice_at b' j → ⊥) → DifferInAll n b b'
differ_all n b b' d = record { differ = d }

-- ---- choices

pub decoded_byte_lem : (n : ℕ) (signs : List ℕ) (i : ℕ) → (decoded_byte n signs i ≤ 1) × (bit (decoded_byte n signs i) ≡ decoded n signs i)
unfolding decoded_byte
decoded_byte_lem n signs i = go (same_sign (elem signs i) (elem signs n))
  where
    go : (t : Bool) → (cond t 0 1 ≤ 1) × (bit (cond t 0 1) ≡ pos (cond t 0 1))
    go true = (omega arith, refl)
    go false = (omega arith, refl)

module _ (n : ℕ) (signs : List ℕ) where
  pub length_choice : length (choice_of n signs) ≡ n
  unfolding choice_of
  length_choice = length_tabulate (decoded_byte n signs) n

  -- the choice at the front of a slice
  pub choice_byte : (xs : List ℕ) (i : ℕ) → i < n → elem (over (choice_of n signs) xs) i ≡ decoded_byte n signs i
  unfolding choice_of
  choice_byte xs i h = get_or-append (tabulate (decoded_byte n signs) n) _ 0 i (rw (length_tabulate (decoded_byte n signs) n) h) ∙ get_d_tabulate (decoded_byte n signs) n i 0 h

  pub choice_at_lem : (xs : List ℕ) (i : ℕ) → i < n → choice_at (over (choice_of n signs) xs) i ≡ decoded n signs i
  choice_at_lem xs i h = ap bit (choice_byte xs i h) ∙ (decoded_byte_lem n signs i).1

  -- and alone
  pub alone_at_lem : (i : ℕ) → i < n → choice_at (choice_of n signs) i ≡ decoded n signs i
  unfolding choice_of
  alone_at_lem i h = ap bit (get_d_tabulate (decoded_byte n signs) n i 0 h) ∙ (decoded_byte_lem n signs i).1

pub other : (x y : ℕ) → (bit x ≡ bit y → ⊥) → bit y ≡ pos 1 -ℤ bit x
other zero zero d = absurd (d refl)
other zero (suc y) d = refl
other (suc x) zero d = refl
other (suc x) (suc y) d = absurd (d refl)

module _ (n : ℕ) (b b' : List ℕ) (a : ℕ → ℤ) (is : (i : ℕ) → i < n → choice_at b i ≡ a i) where
  pub moved_one : (d : DifferInOne n b b') (j : ℕ) → j < n → one_moved d.wagon a j ≡ choice_at b' j
  unfolding one_moved
  moved_one d j h = go (ℕ_discrete d.wagon j)
    where
      go : Dec (d.wagon ≡ j) → cond (eqb d.wagon j) (pos 1 -ℤ a j) (a j) ≡ choice_at b' j
      go (yes e) = rw (eq-eqb d.wagon j e, ← (is j h)) (sym (other (elem b j) (elem b' j) (rw e at d.differs)))
      go (no q) = rw (ne_eqb d.wagon j q) (sym (is j h) ∙ d.others j h (λ e. q (sym e)))

  moved_all : DifferInAll n b b' → (j : ℕ) → j < n → all_moved a j ≡ choice_at b' j
  unfolding all_moved
  moved_all d j h = rw (← (is j h)) (sym (other (elem b j) (elem b' j) (d.differ j h)))

pub fall : (x y : ℤ) (d : ℕ) → (x +ℤ pos d) ≤ℤ y → pos d ≤ℤ (y -ℤ x)
fall x y d h = omega (arith, ints)

-- 01's children of x, by index: those whose change is below 0
abbrev pub children : Table → ℕ → List ℕ → List (List ℕ)
children t m x = improving (improves (change_in t)) flip_sign m x

-- ---- the theorem

module _ {most capacity limit n : ℕ} {h : Table} {c : ℕ → ℤ} (hall : Hall most capacity limit n h c) (rank : ℕ) (factor draws : List Float) (draw_count : ℕ) where
  -- signs cost what they decode to
  pub choice_costs : (signs : List ℕ) → cost_of n h c (choice_of n signs) ≡ objective_in (sign_table n h c) signs
  choice_costs signs = cost_ext n (value_at h) c (alone_at_lem n signs) ∙ sym (signs_cost hall signs)

  abbrev start : List ℕ
  start = rounded_signs n h c rank factor draws draw_count

  rounded_long : length start ≡ suc n
  unfolding rounded_signs rounded_sol
  rounded_long = length_signs_of factor rank (suc n) draws (least_draw factor rank (suc n) draws (sign_table n h c) draw_count)

  rounded_costs : rounded_cost n h c rank factor draws draw_count ≡ cost_of n h c (rounded_choice n h c rank factor draws draw_count)
  unfolding rounded_cost rounded_choice
  rounded_costs = sym (choice_costs start)

  least_objective : (k : ℕ) → k < draw_count → objective_in (sign_table n h c) start ≤ℤ objective_in (sign_table n h c) (signs_of factor rank (suc n) draws k)
  unfolding objective_in rounded_signs rounded_sol
  least_objective k l = least_least (draw_objective factor rank (suc n) draws (sign_table n h c)) (draw_count - 1) k (omega arith)

  -- no draw's rounded choice costs less than the rounded choice
  pub rounded_least : (k : ℕ) → k < draw_count → rounded_cost n h c rank factor draws draw_count ≤ℤ cost_of n h c (drawn_choice n rank factor draws k)
  unfolding rounded_cost drawn_choice
  rounded_least k l = rw (choice_costs (signs_of factor rank (suc n) draws k)) (least_objective k l)

  -- the rounded choice is that of the first draw of least cost: draw k, of which no draw costs less and each earlier one more
  pub rounded_first : 1 ≤ draw_count
      → (k : ℕ) × (k < draw_count) × (rounded_choice n h c rank factor draws draw_count ≡ drawn_choice n rank factor draws k)
      × ((j : ℕ) → j < draw_count → cost_of n h c (drawn_choice n rank factor draws k) ≤ℤ cost_of n h c (drawn_choice n rank factor draws j))
      × ((j : ℕ) → j < k → cost_of n h c (drawn_choice n rank factor draws j) ≤ℤ cost_of n h c (drawn_choice n rank factor draws k) → ⊥)
  unfolding objective_in rounded_choice drawn_choice rounded_signs rounded_sol
  rounded_first some =
      let o = draw_objective factor rank (suc n) draws (sign_table n h c) in
      let k = least_draw factor rank (suc n) draws (sign_table n h c) draw_count in
      let is : (j : ℕ) → cost_of n h c (choice_of n (signs_of factor rank (suc n) draws j)) ≡ o j = λ j. choice_costs (signs_of factor rank (suc n) draws j) in (
        k,
        omega (arith, least_within o (draw_count - 1)),
        refl,
        (λ j l. rw (is k, is j) (least_least o (draw_count - 1) j (omega arith))),
        (λ j l low. least_first o (draw_count - 1) j l (rw (is k, is j) at low)),
      )

  -- with width 0 the rounded choice stands
  pub unsearched : (searched_choice n h c rank factor draws draw_count 0 ≡ rounded_choice n h c rank factor draws draw_count)
      × (searched_cost n h c rank factor draws draw_count 0 ≡ rounded_cost n h c rank factor draws draw_count) × (searched_rounds n h c rank factor draws draw_count 0 ≡ 0)
  unfolding rounded_choice rounded_cost search_result searched_choice searched_cost searched_rounds beam_search sign_search LocalSearch.searched
  unsearched = (refl, refl, refl)

  -- the search's levels end: its answer is the first of least objective in the start and these levels, its rounds are their number
  pub search_ends : (w : ℕ)
      → (ls : List (List (List ℕ))) × Levels (lower (objective_in (sign_table n h c))) (children (sign_table n h c) (suc n)) (suc w) (children (sign_table n h c) (suc n) start) ls
      × (search_result n h c rank factor draws draw_count (suc w) ≡ found_in (lower (objective_in (sign_table n h c))) start ls)
  unfolding search_result beam_search
  search_ends w =
      let t = sign_table n h c in
      let ends = levels_end (hall_mirrors hall) start rounded_long (improves (change_in t)) (λ x. Unit {0}) (record { improving = λ x i e. e; keeps = λ x i p q b e. tt }) tt (suc w) in
      (_, ends, search_levels (hall_mirrors hall) start rounded_long (improves (change_in t)) (λ x. Unit {0}) (record { improving = λ x i e. e; keeps = λ x i p q b e. tt }) tt w _ ends)

  module _ (width : ℕ) (some : 1 ≤ width) where
    abbrev answer : List ℕ
    answer = (search_result n h c rank factor draws draw_count width).answer

    -- the costs beside the answer
    abbrev cost_at : (ℕ → ℤ) → ℤ
    cost_at a = cost_eighths n (value_at h) c a

    one_moved_lem : (i : ℕ) → i < n → cost_at (decoded n answer) ≤ℤ cost_at (one_moved i (decoded n answer))
    unfolding search_result
    one_moved_lem i l = one_wagon hall width start some rounded_long i l

    all_moved_lem : cost_at (decoded n answer) ≤ℤ cost_at (all_moved (decoded n answer))
    unfolding search_result
    all_moved_lem = all_wagons hall width start some rounded_long

    cost_costs : searched_cost n h c rank factor draws draw_count width ≡ cost_at (decoded n answer)
    unfolding searched_cost
    cost_costs = signs_cost hall answer

    -- each round has taken 4 eighths off at least
    rounds_down : pos (4 * searched_rounds n h c rank factor draws draw_count width) ≤ℤ (rounded_cost n h c rank factor draws draw_count -ℤ searched_cost n h c rank factor draws draw_count width)
    unfolding search_result searched_cost searched_rounds rounded_cost
    rounds_down =
        fall (searched_cost n h c rank factor draws draw_count width) (rounded_cost n h c rank factor draws draw_count) (4 * searched_rounds n h c rank factor draws draw_count width)
        (rounds_fall (hall_mirrors hall) start rounded_long width some)

    cost_down : searched_cost n h c rank factor draws draw_count width ≤ℤ rounded_cost n h c rank factor draws draw_count
    unfolding search_result searched_cost rounded_cost
    cost_down = answer_le (hall_mirrors hall) start rounded_long width some

    -- of whatever a finish leaves
    module _ {b b' : List ℕ} {multipliers multipliers' : List Float} {diagonal bound : Float} {floor rounded cost : ℤ} {rounds : ℕ}
        (finish : Finalizes n h c rank width draw_count draws factor b b' multipliers multipliers' diagonal bound floor rounded cost rounds) where
      front : b' ≡ over (choice_of n answer) b
      unfolding searched_choice
      front = finish.choice_is

      is_at : (i : ℕ) → i < n → choice_at b' i ≡ decoded n answer i
      is_at i l = rw front (choice_at_lem n answer b i l)

      cost_is : cost ≡ cost_at (decoded n answer)
      cost_is = finish.cost_is ∙ cost_costs

      beside : (b'' : List ℕ) (a : ℕ → ℤ) → cost_at (decoded n answer) ≤ℤ cost_at a → ((j : ℕ) → j < n → a j ≡ choice_at b'' j) → cost ≤ℤ cost_of n h c b''
      beside b'' a l e = subst₂ ◌≤ℤ◌ (sym cost_is) (cost_ext n (value_at h) c e) l

      taken : take n b' ≡ searched_choice n h c rank factor draws draw_count width
      unfolding searched_choice
      taken = rw front (take_at (choice_of n answer) _ n (length_choice n answer))

      floor_low : (b'' : List ℕ) → floor ≤ℤ cost_of n h c b''
      unfolding floor_eighths
      floor_low b'' = rw finish.floor_is (floor_le_choice hall b'')

      pub demand3 : Demand3 n h c rank factor draws draw_count width b' floor rounded cost rounds
      demand3 = record {
        bytes = λ i l. rw (front, choice_byte n answer b i l) (decoded_byte_lem n answer i).0;
        answer = taken;
        cost_is = cost_is ∙ sym (cost_ext n (value_at h) c is_at);
        one_wagon = λ b'' d. beside b'' _ (one_moved_lem d.wagon d.is_one) (moved_one n b' b'' (decoded n answer) is_at d);
        all_wagons = λ b'' d. beside b'' _ all_moved_lem (moved_all n b' b'' (decoded n answer) is_at d);
        draws_cost = λ k l. rw finish.cost_is (omega (arith, ints, cost_down, rounded_least k l));
        floor_is = finish.floor_is;
        floor_under = floor_low;
        rounds_are = finish.rounds_are;
        rounded_is = finish.rounded_is ∙ rounded_costs;
        rounds_few = rw (finish.rounded_is, finish.cost_is, finish.rounds_are) rounds_down;
      }
