-- One search with some wagons held: the full cost falls by exactly the fall, which is never negative; the held wagons stay; no choice that differs
-- in one free wagon, or in all of them, costs less.
--     fall_is, fall_up       the fall
--     stays                  a wagon that doesn't move
--     one_better, all_better  a wagon that moves, and all of them
--     low_after, long_after  the choice has n bytes, each 0 or 1
-- Assumes nothing.
use Prim.Native.Nat.{ℕ, zero, suc, ◌+◌, ◌≤◌, ◌<◌}
use native.Mathlib.Decide.{ℕ_discrete}
use native.Mathlib.Numerals.{add-one}
use native.Mathlib.Omega.{arith}
use borrow.Author.Tests.{eq-eqb, ne_eqb, le-ltb, ltb-false}
use mathlib.Core.Bool.{Bool, true, false, cond}
use mathlib.Core.List.{List, [], ◌∷◌}
use mathlib.Core.Logic.{◌⊎◌, inl, inr}
use mathlib.Core.Path.{◌≡◌, refl, sym, ap, ◌∙◌, subst₂}
use lib.Dec.{eqb}
use lib.IntN.{ℤ, pos, ◌+ℤ◌, ◌-ℤ◌}
use lib.ListN.{length, length-append, get_or-append, get_or-eq_default}
use lib.Seq.{get_or_at}
use lib.Signed.{◌≤ℤ◌}
use Rattle.std.proofs.lemmas.Bool.{cases_lt}
use Rattle.laws.specs.Lists.{elem}
use Rattle.laws.proofs.Made.{length_tabulate, get_d_tabulate}
use Rattle.std.proofs.lemmas.Int.{ints}
use Rattle.tables.specs.Table.{Table, value_at, same_sign}
use Rattle.tables.specs.Cost.{bit, choice_at, cost_eighths, decoded_byte, decoded}
use Rattle.tables.specs.Check.{Hall}
use Rattle.tables.proofs.Choices.{cost_ext}
use Rattle.tables.proofs.Mirrors.{hall_symmetric}
use Rattle.sign_search.specs.Search.{objective_in}
use Rattle.sign_search.specs.Choices.{one_moved, all_moved}
use Rattle.sign_search.proofs.Theorems.{answer_le}
use Rattle.sign_search.proofs.HallTheorems.{hall_mirrors, signs_cost, one_wagon, all_wagons}
use Rattle.finalize.specs.Finalize.{choice_of, cost_of}
use Rattle.finalize.specs.Demand3.{DifferInOne}
use Rattle.finalize.proofs.Demand3.{decoded_byte_lem, alone_at_lem, other}
use Rattle.pinned.specs.Pinned.{is_free, free_of, free_table, free_cost, held_cost, free_part, Keeps}
use Rattle.pinned.proofs.Free.{free_map, free_once}
use Rattle.pinned.proofs.Lifting.{length_lifted, lifted_free, lifted_held, part_choice}
use Rattle.pinned.proofs.Costs.{reduce_cost}
use Rattle.pinned.proofs.Halls.{reduce_hall}
use Rattle.pinned_demand.specs.PinnedDemand3.{DifferInFree}
use Rattle.pinned_demand.proofs.Pinned.{add_le, same_fall, part_cost}
use Rattle.block_search.specs.Blocks.{held, held_signs, held_table, answer_held, searched_held, fall_held, searched_from, fall_from}
use Rattle.block_search.specs.Clauses.{Low}

-- ---- bytes

-- a byte past the end is 0
pub low_beyond : (xs : List ℕ) (n : ℕ) → length xs ≡ n → ((i : ℕ) → i < n → elem xs i ≤ 1) → Low xs
low_beyond xs n e h = record { low = λ i. go i (cases_lt i n) }
  where
    go : (i : ℕ) → (i < n) ⊎ (n ≤ i) → elem xs i ≤ 1
    go i (inl l) = h i l
    go i (inr l) = rw (get_or-eq_default xs 0 {n = i} (omega (arith, e, l))) (omega arith)

-- beside an anchor of + a sign decodes to its byte
plus_anchor : (x : ℕ) → pos (cond (same_sign x 0) 0 1) ≡ bit x
plus_anchor zero = refl
plus_anchor (suc x) = refl

-- ---- the signs that the search starts from

module _ (n : ℕ) (states b : List ℕ) where
  part_long : length (free_part n states b) ≡ length (free_of n states)
  unfolding free_part
  part_long = length_tabulate (λ k. elem b (elem (free_of n states) k)) (length (free_of n states))

  pub start_long : length (held_signs n states b) ≡ suc (length (free_of n states))
  unfolding held_signs
  start_long = length-append (free_part n states b) (0 ∷ []) ∙ ap (λ k. k + 1) part_long ∙ add-one (length (free_of n states))

  start_at_lem : (k : ℕ) → k < length (free_of n states) → elem (held_signs n states b) k ≡ elem (free_part n states b) k
  unfolding held_signs
  start_at_lem k l = get_or-append (free_part n states b) (0 ∷ []) 0 k (rw part_long l)

  start_anchor : elem (held_signs n states b) (length (free_of n states)) ≡ 0
  unfolding held_signs
  start_anchor = get_or_at (free_part n states b) 0 [] 0 (length (free_of n states)) part_long

  start_decodes : (k : ℕ) → k < length (free_of n states) → decoded (length (free_of n states)) (held_signs n states b) k ≡ choice_at (free_part n states b) k
  unfolding decoded_byte
  start_decodes k l = rw (start_at_lem k l, start_anchor) (plus_anchor (elem (free_part n states b) k))

-- ---- one search

module _ {most capacity limit n : ℕ} {h : Table} {c : ℕ → ℤ} (hall : Hall most capacity limit n h c) (states b : List ℕ) (long : n ≤ length states) (W : ℕ) (some : 1 ≤ W) where
  abbrev f : ℕ
  f = length (free_of n states)

  abbrev H' : Table
  H' = free_table n h states

  abbrev c' : ℕ → ℤ
  c' = free_cost n h c states

  abbrev K : ℤ
  K = held_cost n h c states

  abbrev answer : List ℕ
  answer = answer_held n h c W states b

  reduced : Hall most capacity limit f H' c'
  reduced = reduce_hall hall states

  answer_low : (k : ℕ) → k < f → elem (choice_of f answer) k ≤ 1
  unfolding choice_of
  answer_low k l = rw (get_d_tabulate (decoded_byte f answer) f k 0 l) (decoded_byte_lem f answer k).0

  -- what start and answer cost, with the constant
  start_costs : Keeps n states b → objective_in (held_table n h c states) (held_signs n states b) +ℤ K ≡ cost_of n h c b
  unfolding held_table
  start_costs keeps =
      ap (λ z. z +ℤ K) (signs_cost reduced (held_signs n states b) ∙ cost_ext f (value_at H') c' (start_decodes n states b))
      ∙ part_cost hall states long b keeps

  answer_costs : objective_in (held_table n h c states) answer +ℤ K ≡ cost_of n h c (searched_held n h c W states b)
  unfolding held_table searched_held
  answer_costs =
      ap (λ z. z +ℤ K) (signs_cost reduced answer ∙ cost_ext f (value_at H') c' (λ k l. sym (alone_at_lem f answer k l)))
      ∙ reduce_cost n h c states (choice_of f answer) long (hall_symmetric hall)

  -- the theorem: the full cost falls by exactly the fall
  pub held_fall : Keeps n states b → cost_of n h c b -ℤ cost_of n h c (searched_held n h c W states b) ≡ fall_held n h c W states b
  unfolding fall_held
  held_fall keeps =
      rw (← (start_costs keeps), ← answer_costs)
      (sym (same_fall (objective_in (held_table n h c states) (held_signs n states b)) (objective_in (held_table n h c states) answer) K))

  -- which is never negative
  pub held_up : pos 0 ≤ℤ fall_held n h c W states b
  unfolding fall_held held_table answer_held
  held_up = omega (arith, ints, answer_le (hall_mirrors reduced) (held_signs n states b) (start_long n states b) W some)

  -- a held wagon stays, and a free one is where the answer has it
  pub held_stays : (i : ℕ) → i < n → is_free states i ≡ false → elem (searched_held n h c W states b) i ≡ elem states i
  unfolding searched_held
  held_stays i l e = lifted_held n states (choice_of f answer) long i l e

  free_moves : (k : ℕ) → k < f → elem (searched_held n h c W states b) (elem (free_of n states) k) ≡ elem (choice_of f answer) k
  unfolding searched_held
  free_moves k l = lifted_free n states (choice_of f answer) long k l

  pub held_long : length (searched_held n h c W states b) ≡ n
  unfolding searched_held
  held_long = length_lifted n states (choice_of f answer) long

  pub held_low : Low (searched_held n h c W states b)
  held_low = low_beyond (searched_held n h c W states b) n held_long (λ i l. go i l (is_free states i) refl)
    where
      go : (i : ℕ) → i < n → (t : Bool) → is_free states i ≡ t → elem (searched_held n h c W states b) i ≤ 1
      go i l true e =
          let (k, a, q) = (free_map n states).has i l e in
          let is : elem (searched_held n h c W states b) i ≡ elem (choice_of f answer) k = (rw q at (free_moves k a)) in
          omega (arith, answer_low k a)
      go i l false e = omega (arith, held_stays i l e, ltb-false 1 (elem states i) e)

  -- free wagon k of the choice found
  this : (k : ℕ) → k < f → decoded f answer k ≡ choice_at (searched_held n h c W states b) (elem (free_of n states) k)
  this k l = sym (alone_at_lem f answer k l) ∙ ap bit (sym (free_moves k l))

  -- what keeps the held wagons and doesn't cost less in its free part doesn't cost less
  beside : (b' : List ℕ) → Keeps n states b' → cost_eighths f (value_at H') c' (decoded f answer) ≤ℤ cost_eighths f (value_at H') c' (choice_at (free_part n states b'))
      → cost_of n h c (searched_held n h c W states b) ≤ℤ cost_of n h c b'
  unfolding held_table
  beside b' keeps less =
      subst₂ ◌≤ℤ◌ (ap (λ z. z +ℤ K) (sym (signs_cost reduced answer)) ∙ answer_costs) (part_cost hall states long b' keeps)
      (add_le (cost_eighths f (value_at H') c' (decoded f answer)) (cost_eighths f (value_at H') c' (choice_at (free_part n states b'))) K less)

  -- no choice that differs in one free wagon costs less
  module _ (b' : List ℕ) (d : DifferInOne n (searched_held n h c W states b) b') (free : is_free states d.wagon ≡ true) where
    moved : (k : ℕ) → k < f → elem (free_of n states) k ≡ d.wagon → (j : ℕ) → j < f → one_moved k (decoded f answer) j ≡ choice_at (free_part n states b') j
    unfolding one_moved
    moved k l q j a = go (ℕ_discrete k j)
      where
        go : Dec (k ≡ j) → cond (eqb k j) (pos 1 -ℤ decoded f answer j) (decoded f answer j) ≡ choice_at (free_part n states b') j
        go (yes e) =
            rw (eq-eqb k j e, this j a, part_choice n states b' j a)
            (sym (other (elem (searched_held n h c W states b) (elem (free_of n states) j)) (elem b' (elem (free_of n states) j)) (rw (ap (λ x. elem (free_of n states) x) (sym e) ∙ q) d.differs)))
        go (no ne) =
            rw (ne_eqb k j ne)
            (this j a ∙ d.others (elem (free_of n states) j) ((free_map n states).below j a) (λ s. ne ((free_once n states).same k j l a (q ∙ sym s))) ∙ sym (part_choice n states b' j a))

    pub held_one : cost_of n h c (searched_held n h c W states b) ≤ℤ cost_of n h c b'
    unfolding answer_held held_table
    held_one =
        let (k, l, q) = (free_map n states).has d.wagon d.is_one free in
        beside b' (record { same = λ i a e. sym (d.others i a (λ s. cc)) ∙ ap bit (held_stays i a e) })
        (subst₂ ◌≤ℤ◌ refl (cost_ext f (value_at H') c' (moved k l q)) (one_wagon reduced W (held_signs n states b) some (start_long n states b) k l))

  -- none that differs in all of them and in no other does
  module _ (b' : List ℕ) (d : DifferInFree n states (searched_held n h c W states b) b') where
    all_moved_lem : (j : ℕ) → j < f → all_moved (decoded f answer) j ≡ choice_at (free_part n states b') j
    unfolding all_moved
    all_moved_lem j a =
        rw (this j a, part_choice n states b' j a)
        (sym (other (elem (searched_held n h c W states b) (elem (free_of n states) j)) (elem b' (elem (free_of n states) j)) (d.differ (elem (free_of n states) j) ((free_map n states).below j a) ((free_map n states).free j a))))

    pub held_all : cost_of n h c (searched_held n h c W states b) ≤ℤ cost_of n h c b'
    unfolding answer_held held_table
    held_all =
        beside b' (record { same = λ i a e. sym (d.stay i a e) ∙ ap bit (held_stays i a e) })
        (subst₂ ◌≤ℤ◌ refl (cost_ext f (value_at H') c' all_moved_lem) (all_wagons reduced W (held_signs n states b) some (start_long n states b)))

-- ---- the states of the wagons that move and of all others

module _ (n : ℕ) (moves : ℕ → Bool) (b : List ℕ) (low : Low b) where
  pub length_states : length (held n moves b) ≡ n
  unfolding held
  length_states = length_tabulate (λ i. cond (moves i) 2 (elem b i)) n

  state_at : (i : ℕ) → i < n → elem (held n moves b) i ≡ cond (moves i) 2 (elem b i)
  unfolding held
  state_at i l = get_d_tabulate (λ i. cond (moves i) 2 (elem b i)) n i 0 l

  pub moves_free : (i : ℕ) → i < n → is_free (held n moves b) i ≡ moves i
  moves_free i l = rw (state_at i l) (go (moves i))
    where
      go : (t : Bool) → is_free (cond t 2 (elem b i) ∷ []) 0 ≡ t
      go true = refl
      go false = le-ltb 1 (elem b i) (low.low i)

  still : (i : ℕ) → i < n → moves i ≡ false → elem (held n moves b) i ≡ elem b i
  still i l e = state_at i l ∙ ap (λ t. cond t 2 (elem b i)) e

  pub states_keep : Keeps n (held n moves b) b
  states_keep = record { same = λ i l e. ap bit (sym (still i l (sym (moves_free i l) ∙ e))) }

  module _ {most capacity limit : ℕ} {h : Table} {c : ℕ → ℤ} (hall : Hall most capacity limit n h c) (W : ℕ) (some : 1 ≤ W) where
    long : n ≤ length (held n moves b)
    long = omega (arith, length_states)

    pub fall_is : cost_of n h c b -ℤ cost_of n h c (searched_from n h c W moves b) ≡ fall_from n h c W moves b
    fall_is = held_fall hall (held n moves b) b long W some states_keep

    pub fall_up : pos 0 ≤ℤ fall_from n h c W moves b
    fall_up = held_up hall (held n moves b) b long W some

    pub stays : (i : ℕ) → i < n → moves i ≡ false → elem (searched_from n h c W moves b) i ≡ elem b i
    stays i l e = held_stays hall (held n moves b) b long W some i l (moves_free i l ∙ e) ∙ still i l e

    pub one_better : (b' : List ℕ) (d : DifferInOne n (searched_from n h c W moves b) b') → moves d.wagon ≡ true → cost_of n h c (searched_from n h c W moves b) ≤ℤ cost_of n h c b'
    one_better b' d e = held_one hall (held n moves b) b long W some b' d (moves_free d.wagon d.is_one ∙ e)

    pub all_better : (b' : List ℕ) → ((i : ℕ) → i < n → moves i ≡ true → choice_at (searched_from n h c W moves b) i ≡ choice_at b' i → ⊥)
        → ((i : ℕ) → i < n → moves i ≡ false → choice_at (searched_from n h c W moves b) i ≡ choice_at b' i) → cost_of n h c (searched_from n h c W moves b) ≤ℤ cost_of n h c b'
    all_better b' d s =
        held_all hall (held n moves b) b long W some b' (record { differ = λ i l e. d i l (sym (moves_free i l) ∙ e); stay = λ i l e. s i l (sym (moves_free i l) ∙ e) })

    pub low_after : Low (searched_from n h c W moves b)
    low_after = held_low hall (held n moves b) b long W some

    pub long_after : length (searched_from n h c W moves b) ≡ n
    long_after = held_long hall (held n moves b) b long W some
