-- What the functions of one search leave, put together. Assumes nothing.
use Prim.Native.Nat.{ℕ, suc, ◌+◌, ◌≤◌}
use native.Mathlib.Numerals.{add-one}
use native.Mathlib.Omega.{arith}
use Rattle.std.proofs.lemmas.List.{places}
use mathlib.Core.List.{List, [], ◌∷◌, ◌++◌}
use mathlib.Core.Path.{◌≡◌, refl, sym, ap, ap₂, subst, ◌∙◌}
use mir.Syntax.{w64}
use mir.Val.{SFits, to_z, of_z}
use mir.Facts.{to_z-of_z}
use lib.IntN.{ℤ, neg_ℤ, ◌-ℤ◌}
use lib.ListN.{length, take, set, length-append}
use lib.Seq.{take_at, length-take-le}
use Rattle.laws.specs.Lists.{elem, elem_z, over, fill, tabulate}
use Rattle.laws.proofs.Made.{length_tabulate, over_next, over_all}
use Rattle.std.proofs.lemmas.Int.{fits_signed_from_abs}
use Rattle.laws.proofs.Integer.{abs_add, abs_neg}
use Rattle.limits.specs.Limits.{most_wagons, most_entries, most_magnitude, most_signs, most_sign_entries, most_sign_magnitude}
use Rattle.tables.specs.Table.{Table, table_of, Lent, objective_of, sign_at}
use Rattle.tables.specs.Check.{Hall, Accepted}
use Rattle.tables.specs.declared.judged.JudgedHall.{JudgedHall}
use Rattle.tables.proofs.Checks.{hall_accepted}
use Rattle.tables.specs.Cost.{decoded_byte}
use Rattle.tables.specs.Stored.{Room}
use Rattle.sign_table.specs.SignTable.{sign_table}
use Rattle.sign_words.specs.Signs.{Binary}
use Rattle.sign_words.proofs.PackedLaws.{tabulate_binary}
use Rattle.sign_search.specs.Search.{objective_in, beam_search}
use Rattle.sign_search.specs.Clauses.{Found-by}
use Rattle.sign_search.proofs.Theorems.{accepted_mirrors}
use Rattle.sign_search.proofs.Lawful.{objective_abs}
use Rattle.finalize.specs.Finalize.{choice_of}
use Rattle.finalize.proofs.Assembled.{fill_choice}
use Rattle.pinned.specs.Pinned.{free_of, free_table, free_costs, free_cost, lifted, free_part, Reducing, Shrinks}
use Rattle.pinned.proofs.Free.{free_few}
use Rattle.pinned.proofs.Halls.{reduce_hall}
use Rattle.pinned.proofs.Lifting.{length_lifted}
use Rattle.pinned.proofs.Steps.{costs_front, table_front}
use Rattle.pinned_demand.proofs.Pinned.{lifted_same}
use Rattle.block_search.specs.Blocks.{held_signs, held_table, answer_held, searched_held, fall_held}
use Rattle.block_search.specs.Clauses.{Low, start_signs}

-- ---- the signs that the search starts from

pub start_size : (free b : List ℕ) → length (start_signs free b) ≡ suc (length free)
unfolding start_signs
start_size free b = length-append (tabulate (λ k. elem b (elem free k)) (length free)) (0 ∷ []) ∙ ap (λ i. i + 1) (length_tabulate (λ k. elem b (elem free k)) (length free)) ∙ add-one (length free)

pub signs_made : (free b signs₀ : List ℕ) {k : ℕ} {signs : List ℕ} → k ≡ length free → signs ≡ over (tabulate (λ j. elem b (elem free j)) k) signs₀
    → length signs₀ ≡ suc (length free) → set signs k 0 ≡ start_signs free b
unfolding start_signs
signs_made free b signs₀ e s l =
    let front = tabulate (λ j. elem b (elem free j)) (length free) in
    let m : length front ≡ length free = length_tabulate (λ j. elem b (elem free j)) (length free) in
    let q : length signs₀ ≡ length (front ++ (0 ∷ [])) = l ∙ sym (start_size free b) in
    rw (s, e) (subst (λ (i : ℕ). set (over front signs₀) i 0 ≡ front ++ (0 ∷ [])) m (over_next front 0 0 signs₀ (omega (arith, m, l)) ∙ over_all (front ++ (0 ∷ [])) signs₀ q))

pub start_binary : (free : List ℕ) {b : List ℕ} → Low b → Binary (start_signs free b)
unfolding start_signs
start_binary free {b} low =
    record { small = λ i. grind (arith, places, (tabulate_binary (λ k. elem b (elem free k)) (length free) (λ k. omega (arith, low.low (elem free k)))).small) }

-- ---- the search on a sign table

pub differ_fits : {m : ℕ} {t : Table} → Accepted most_signs most_sign_entries most_sign_magnitude m t → (x y : List ℕ) {a b : ℤ} → a ≡ objective_in t x → b ≡ objective_in t y → SFits w64 (a -ℤ b)
differ_fits {t = t} ok x y p q =
    rw (p, q) (fits_signed_from_abs w64 (objective_in t x -ℤ objective_in t y)
    (omega (arith, abs_add (objective_in t x) (neg_ℤ (objective_in t y)), abs_neg (objective_in t y), objective_abs (accepted_mirrors ok) ok.magnitude x, objective_abs (accepted_mirrors ok) ok.magnitude y)))

pub objective_is : (t : Table) (x : List ℕ) → objective_of t (sign_at x) ≡ objective_in t x
unfolding objective_in
objective_is t x = refl

-- what it leaves, from the signs it starts from
pub from_made : {m : ℕ} {t : Table} → Accepted most_signs most_sign_entries most_sign_magnitude m t → (W f : ℕ) (start signs answer found found' : List ℕ) {a l least : ℤ} {rounds : ℕ}
    → a ≡ objective_in t signs → l ≡ objective_in t answer → signs ≡ start → Found-by t W signs least rounds answer → found' ≡ fill (decoded_byte f answer) f found → f ≤ length found
    → (to_z w64 (of_z w64 (a -ℤ l)) ≡ objective_in t start -ℤ objective_in t (beam_search t W start).answer) × (found' ≡ over (choice_of f (beam_search t W start).answer) found)
from_made {t = t} ok W f start signs answer found found' p q e by d room =
    let is : answer ≡ (beam_search t W start).answer = by.answer_is ∙ ap (λ (x : List ℕ). (beam_search t W x).answer) e in (
      to_z-of_z (differ_fits ok signs answer p q) ∙ ap₂ ◌-ℤ◌ (p ∙ ap (objective_in t) e) (q ∙ ap (objective_in t) is),
      d ∙ fill_choice f answer found room ∙ ap (λ (x : List ℕ). over (choice_of f x) found) is,
    )

pub lent_front : (rows cols : List ℕ) (values : List ℤ) (k : ℕ) → k ≤ length rows → k ≤ length cols → k ≤ length values → Lent k (take k rows) (take k cols) (take k values)
lent_front rows cols values k r q v =
    record { rows_there = omega (arith, length-take-le k rows r); cols_there = omega (arith, length-take-le k cols q); values_there = omega (arith, length-take-le k values v) }

-- ---- the search on the reduced (H, c)

-- a judged (H, c) may be reduced
pub reducing : (h : JudgedHall) {states : List ℕ} → h.n ≤ length states → Reducing h.n h.table.count h.table.rows.now h.table.cols.now h.table.values.now h.c.now states
reducing h there = record { lent = h.table.lent; costs_there = h.costs_there; states_there = there; hall = hall_accepted h.judged }

module _ {n count : ℕ} {rows cols : List ℕ} {values c : List ℤ} {states : List ℕ} (ok : Reducing n count rows cols values c states)
    {rows₀ cols₀ : List ℕ} {values₀ costs₀ : List ℤ} {rows' cols' : List ℕ} {values' costs' : List ℤ} {entries : ℕ} {constant : ℤ}
    (made : Shrinks n (table_of count rows cols values) (elem_z c) states rows₀ cols₀ values₀ costs₀ rows' cols' values' costs' entries constant) where
  abbrev h : Table
  h = table_of count rows cols values

  pub entries_few : entries ≤ most_entries
  unfolding free_table
  entries_few = rw made.many (reduce_hall ok.hall states).entries

  module _ {wagons : ℕ} (w : wagons ≡ length (free_of n states)) where
    pub wagons_few : wagons ≤ n
    wagons_few = rw w (free_few n states)

    front_costs : take wagons costs' ≡ free_costs n h (elem_z c) states
    front_costs = rw w (costs_front made)

    module _ (room : Room 0 entries rows₀ cols₀ values₀) where
      front_table : table_of entries (take entries rows') (take entries cols') (take entries values') ≡ free_table n h states
      front_table = table_front made room

      pub front_hall : Hall most_wagons most_entries most_magnitude wagons (table_of entries (take entries rows') (take entries cols') (take entries values')) (elem_z (take wagons costs'))
      front_hall = rw (front_table, front_costs, w) (reduce_hall ok.hall states)

      -- what it leaves
      pub search_made : (W : ℕ) (free b b' found found' : List ℕ) (fall : ℤ) → free ≡ free_of n states
          → fall ≡ objective_in (sign_table wagons (table_of entries (take entries rows') (take entries cols') (take entries values')) (elem_z (take wagons costs'))) (start_signs free b)
          -ℤ objective_in (sign_table wagons (table_of entries (take entries rows') (take entries cols') (take entries values')) (elem_z (take wagons costs')))
          (beam_search (sign_table wagons (table_of entries (take entries rows') (take entries cols') (take entries values')) (elem_z (take wagons costs'))) W (start_signs free b)).answer
          → found' ≡ over (choice_of wagons (beam_search (sign_table wagons (table_of entries (take entries rows') (take entries cols') (take entries values')) (elem_z (take wagons costs'))) W (start_signs free b)).answer) found
          → b' ≡ over (lifted n states found') b → length b ≡ n
          → (fall ≡ fall_held n h (elem_z c) W states b) × (b' ≡ searched_held n h (elem_z c) W states b)
      unfolding fall_held searched_held answer_held held_table held_signs free_part start_signs choice_of
      search_made W free b b' found found' fall e f g k l =
          let answer = (beam_search (sign_table (length (free_of n states)) (free_table n h states) (free_cost n h (elem_z c) states)) W (start_signs (free_of n states) b)).answer in
          let g' : found' ≡ over (choice_of (length (free_of n states)) answer) found = (rw (front_table, front_costs, w, e) at g) in
          let cut : take (length (free_of n states)) found' ≡ choice_of (length (free_of n states)) answer
          = ap (take (length (free_of n states))) g' ∙ take_at (choice_of (length (free_of n states)) answer) _ (length (free_of n states)) (length_tabulate (decoded_byte (length (free_of n states)) answer) (length (free_of n states))) in (
            (rw (front_table, front_costs, w, e) at f),
            k ∙ over_all (lifted n states found') b (l ∙ sym (length_lifted n states found' ok.states_there)) ∙ lifted_same n states found' ∙ ap (lifted n states) cut,
          )
