-- The pins: a pin judged against the states is a pin judged against the earlier pins; what accepted pins are.
--     judged_is               the number by the states is the pin's
--     pin_held, other_free    accepted pins: a pinned wagon is held in its pin's store, every other is free
--     free_left, free_kept    and so many wagons are free as no pin holds
-- Assumes nothing.
use Prim.Native.Nat.{ℕ, zero, suc, ◌+◌, ◌*◌, ◌≤◌, ◌<◌}
use mathlib.Core.Path.{◌≡◌, refl, sym, ap, ◌∙◌}
use mathlib.Core.Bool.{Bool, true, false, cond, not, ◌||◌}
use mathlib.Core.List.{List, [], ◌∷◌}
use mathlib.Core.Logic.{◌⊎◌, inl, inr}
use native.Mathlib.Nat.{mul-one}
use native.Mathlib.Omega.{arith}
use native.Mathlib.Numerals.{add-one}
use native.Mathlib.Decide.{ℕ_discrete}
use borrow.Author.Tests.{le-ltb, eq-eqb, ne_eqb, eqb-true, ltb-false, leb-false, not-false}
use lib.ListN.{length, set, replicate, length-replicate, get_or-replicate, length-append}
use lib.Seq.{get_or-set_same, get_or-set_other}
use lib.Dec.{leb, ltb, eqb}
use Rattle.laws.specs.Turns.{up_to}
use Rattle.laws.specs.Sum.{total}
use Rattle.laws.specs.Lists.{elem, any_below, kept, only_if}
use Rattle.laws.specs.Refusal.{◌if◌, or_else, first, first_of}
use Rattle.std.proofs.lemmas.Bool.{or_parts, cases_lt}
use Rattle.laws.proofs.Any.{below_at, below_none}
use Rattle.laws.proofs.Totals.{onlyℕ, total_ext, total_const, total_add, total_only}
use Rattle.laws.proofs.Refusal.{clear, both, first_head, first_rest, each}
use Rattle.laws.proofs.Refusal as R
use Rattle.laws.proofs.Following.{moves_on_if, answers_last}
use Rattle.reduced.proofs.Put.{Last, found, none, put_last, length_put}
use Rattle.std.specs.Prelude.{Option, Some}
use Rattle.job_reader.specs.Bytes.{big_endian, field_at, value_of}
use Rattle.job_record.specs.declared.reading.PinFields.{PinFields}
use Rattle.job_record.specs.Fields.{pin_at, pin_wagon, pin_store, last_store, free_state}
use Rattle.job_record.specs.Number.{ends_before, bounded_number, pinned_before, pin_number, pins_numbers}
use Rattle.job_record.specs.Reading.{pin_from, is_short, wagon_wrong, pin_judged}
use Rattle.job_record.specs.Values.{states_of}
use Rattle.job_record.proofs.Bounded.{bounded_passed}
use Rattle.job_record.proofs.FieldByField.{behind, reached, there, field_judged, field_limit, field_short, field_there, follow}

-- ---- an accepted pin

pub record Pin (s : List ℕ) (n at k : ℕ) : Type 0 where
  pub there : pin_at at k + 2 ≤ length s
  pub wagon : pin_wagon s at k < n
  pub new : pinned_before s at k ≡ false
  pub store : pin_store s at k ≤ last_store

pub accepted : (s : List ℕ) (n at k : ℕ) → pin_number s n at k ≡ 0 → Pin s n at k
unfolding pin_number
accepted s n at k e =
    let e₂ = first_rest _ _ e in
    let wagon = clear (leb n (pin_wagon s at k) || pinned_before s at k) 20 (first_head _ _ e₂) in
    let store = bounded_passed s (pin_at at k + 1) 1 last_store 20 (first_head _ _ (first_rest _ _ e₂)) in
    record {
      there = omega arith;
      wagon = leb-false n (pin_wagon s at k) (or_parts (leb n (pin_wagon s at k)) (pinned_before s at k) wagon).0;
      new = (or_parts (leb n (pin_wagon s at k)) (pinned_before s at k) wagon).1;
      store = store.1;
    }

new_is : (s : List ℕ) (at k : ℕ) → pinned_before s at k ≡ false → any_below k (λ j. eqb (pin_wagon s at j) (pin_wagon s at k)) ≡ false
unfolding pinned_before
new_is s at k e = e

-- ---- the states

pub states_begin : (s : List ℕ) (n at : ℕ) → replicate n free_state ≡ states_of s n at 0
unfolding states_of up_to
states_begin s n at = refl

pub states_next : (s : List ℕ) (n at k : ℕ) → set (states_of s n at k) (pin_wagon s at k) (pin_store s at k) ≡ states_of s n at (k + 1)
unfolding states_of up_to
states_next s n at k = rw (add-one k)

pub length_states : (s : List ℕ) (n at k : ℕ) → length (states_of s n at k) ≡ n
unfolding states_of
length_states s n at k = length_put (pin_wagon s at) (pin_store s at) k (replicate n free_state) ∙ length-replicate {A = ℕ} n free_state

-- a pin by its fields, against states
three : (a b c : ℕ) → first (first (a ∷ b ∷ []) ∷ c ∷ []) ≡ first (a ∷ b ∷ c ∷ [])
unfolding first or_else
three zero zero c = refl
three zero (suc b) c = refl
three (suc a) b c = refl

pub pin_judged_lem : (s : List ℕ) (n place : ℕ) (states : List ℕ) → first (pin_judged n states (pin_from s place))
    ≡ first (11 if ends_before s (place + 1) ∷ 21 if (leb n (big_endian s place 1) || not (eqb (elem states (big_endian s place 1)) free_state)) ∷ bounded_number s (place + 1) 1 last_store 21 ∷ [])
unfolding pin_from
pin_judged_lem s n place states =
    follow _ _ _ _ (field_judged s place 1 (wagon_wrong n states) 21) (λ z. let h = ltb-false (length s) (place + 1) (clear _ 10 (first_head _ _ z)) in
    ap (λ (k : ℕ). first (k ∷ [])) (field_limit s (place + 1) 1 (reached s place (1 ∷ []) 1 h) last_store 21 refl))
    ∙ three _ _ _

module _ (s : List ℕ) (n at k : ℕ) (before : first_of (pin_number s n at) k ≡ 0) where
  earlier : (j : ℕ) → j < k → Pin s n at j
  earlier j l = accepted s n at j (each (pin_number s n at) k before j l)

  stands : (w : ℕ) → w < n → Last (pin_wagon s at) (pin_store s at) k w free_state (elem (states_of s n at k) w)
  unfolding states_of
  stands w h =
      let l = put_last {A = ℕ} (pin_wagon s at) (pin_store s at) k (replicate n free_state) w 0 (rw (length-replicate {A = ℕ} n free_state) h) in
      rw (get_or-replicate {A = ℕ} n w free_state 0 h) at l

  seen : pin_wagon s at k < n → not (eqb (elem (states_of s n at k) (pin_wagon s at k)) free_state) ≡ pinned_before s at k
  unfolding pinned_before
  seen h = go (stands (pin_wagon s at k) h)
    where
      go : {y : ℕ} → Last (pin_wagon s at) (pin_store s at) k (pin_wagon s at k) free_state y → not (eqb y free_state) ≡ any_below k (λ j. eqb (pin_wagon s at j) (pin_wagon s at k))
      go (found j l e rest) =
          rw (ne_eqb (pin_store s at j) free_state (λ q. omega (arith, (earlier j l).store))) (sym (below_at _ k j l (eq-eqb _ _ e)))
      go (none away) = sym (below_none _ k (λ j l. ne_eqb _ _ (away j l)))

  pub judged_is : first (pin_judged n (states_of s n at k) (pin_from s (pin_at at k))) ≡ pin_number s n at k
  unfolding pin_number
  judged_is =
      pin_judged_lem s n (pin_at at k) (states_of s n at k)
      ∙ ap (λ (b : Bool). first (11 if ends_before s (pin_at at k + 1) ∷ 21 if b ∷ bounded_number s (pin_at at k + 1) 1 last_store 21 ∷ [])) (go (leb n (pin_wagon s at k)) refl)
    where
      go : (t : Bool) → leb n (pin_wagon s at k) ≡ t → (t || not (eqb (elem (states_of s n at k) (pin_wagon s at k)) free_state)) ≡ (t || pinned_before s at k)
      go true e = refl
      go false e = seen (leb-false n (pin_wagon s at k) e)

-- ---- a turn of the loop: the pin at the place where the one before it ended

module _ (s : List ℕ) (n at k : ℕ) {states : List ℕ} {place r : ℕ} {pin : PinFields} (before : first_of (pin_number s n at) k ≡ 0) (are : states ≡ states_of s n at k) (stood : place ≡ pin_at at k)
    (read : pin ≡ pin_from s place) (is : r ≡ first (pin_judged n states pin)) where
  turn_read : pin ≡ pin_from s (pin_at at k)
  turn_read = read ∙ ap (pin_from s) stood

  turn_number_lem : r ≡ pin_number s n at k
  turn_number_lem = is ∙ ap (λ l. first (pin_judged n l pin)) are ∙ ap (λ (p : PinFields). first (pin_judged n (states_of s n at k) p)) turn_read ∙ judged_is s n at k before

  pub turn_refused : (count : ℕ) → k < count → (r ≡ 0 → ⊥) → r ≡ first_of (pin_number s n at) count
  turn_refused count l d = R.found (pin_number s n at) k count before l turn_number_lem d

  module _ (z : r ≡ 0) where
    pub turn_pin : Pin s n at k
    turn_pin = accepted s n at k (sym turn_number_lem ∙ z)

    pub turn_wagon : value_of pin.wagon ≡ pin_wagon s at k
    unfolding pin_from
    turn_wagon =
        let e : pin_at at k + 0 ≡ pin_at at k = omega arith in
        ap (λ (p : PinFields). value_of p.wagon) turn_read ∙ ap value_of (there s (pin_at at k) [] 1 (omega (arith, turn_pin.there))) ∙ ap (λ (p : ℕ). big_endian s p 1) e

    pub turn_store : value_of pin.store ≡ pin_store s at k
    unfolding pin_from
    turn_store = ap (λ (p : PinFields). value_of p.store) turn_read ∙ ap value_of (there s (pin_at at k) (1 ∷ []) 1 (omega (arith, turn_pin.there)))

    pub turn_room : (value_of pin.wagon < length states) × (value_of pin.store < 256)
    turn_room = (omega (arith, turn_wagon, turn_pin.wagon, ap length are, length_states s n at k), omega (arith, turn_store, turn_pin.store))

    pub turn_on : {states' : List ℕ} → states' ≡ set states (value_of pin.wagon) (value_of pin.store)
        → (first_of (pin_number s n at) (k + 1) ≡ 0) × (states' ≡ states_of s n at (k + 1)) × (pin.next ≡ pin_at at (k + 1))
    unfolding pin_from
    turn_on e =
        let next : pin_at at k + 2 ≡ pin_at at (k + 1) = omega arith in
        let put = rw (turn_wagon, turn_store, are) at e in
        (R.passed (pin_number s n at) k before turn_number_lem z, put ∙ states_next s n at k, ap (λ (p : PinFields). p.next) turn_read ∙ behind s (pin_at at k) (1 ∷ 1 ∷ []) turn_pin.there ∙ next)

-- ---- the pin count

module _ (s : List ℕ) (n at : ℕ) {f : Option ℕ} (read : f ≡ field_at s at 1) {count : ℕ} (e : f ≡ Some count) where
  in_range : ends_before s (at + 1) ≡ false
  in_range = sym (field_short s at 1) ∙ ap is_short (sym read ∙ e)

  pub count_is : count ≡ big_endian s at 1
  count_is = ap value_of (sym e ∙ field_there s at 1 read (ltb-false (length s) (at + 1) in_range))

  pub count_there : {r : ℕ} → r ≡ first_of (pin_number s n (at + 1)) count → r ≡ first (pins_numbers s n at)
  unfolding pins_numbers
  count_there q = moves_on_if 11 (ends_before s (at + 1)) _ in_range (answers_last _ (q ∙ ap (first_of (pin_number s n (at + 1))) count_is))

-- ---- accepted pins

module _ (s : List ℕ) (n at count : ℕ) (none-refused : first_of (pin_number s n at) count ≡ 0) where
  -- no two have one wagon
  pub apart : (i j : ℕ) → i < j → j < count → pin_wagon s at i ≡ pin_wagon s at j → ⊥
  apart i j a b e = cc (new_is s at j (earlier s n at count none-refused j b).new, below_at (λ i. eqb (pin_wagon s at i) (pin_wagon s at j)) j i a (eq-eqb _ _ e))

  pub pin_held : (k : ℕ) → k < count → elem (states_of s n at count) (pin_wagon s at k) ≡ pin_store s at k
  pin_held k l = go (stands s n at count none-refused (pin_wagon s at k) (earlier s n at count none-refused k l).wagon)
    where
      go : {y : ℕ} → Last (pin_wagon s at) (pin_store s at) count (pin_wagon s at k) free_state y → y ≡ pin_store s at k
      go (found j b e rest) = pick (cases_lt j k) (cases_lt k j)
        where
          pick : (j < k) ⊎ (k ≤ j) → (k < j) ⊎ (j ≤ k) → pin_store s at j ≡ pin_store s at k
          pick (inl a) x = absurd (apart j k a l e)
          pick (inr a) (inl x) = absurd (apart k j x b (sym e))
          pick (inr a) (inr x) = let q : j ≡ k = omega arith in ap (pin_store s at) q
      go (none away) = absurd (away k l refl)

  pub other_free : (w : ℕ) → w < n → ((k : ℕ) → k < count → pin_wagon s at k ≡ w → ⊥) → elem (states_of s n at count) w ≡ free_state
  other_free w h d = go (stands s n at count none-refused w h)
    where
      go : {y : ℕ} → Last (pin_wagon s at) (pin_store s at) count w free_state y → y ≡ free_state
      go (found j b e rest) = absurd (d j b e)
      go (none away) = refl

-- ---- how many are free

abbrev counted : List ℕ → ℕ → ℕ
counted states i = cond (ltb 1 (elem states i)) 1 0

one_less : (n : ℕ) (states : List ℕ) (w v : ℕ) → length states ≡ n → w < n → elem states w ≡ free_state → v ≤ last_store → total n (counted (set states w v)) + 1 ≡ total n (counted states)
one_less n states w v e h free low =
    ap (λ (k : ℕ). total n (counted (set states w v)) + k) (sym (total_only n w (λ i. 1) h))
    ∙ sym (total_add n (counted (set states w v)) (λ i. onlyℕ w i 1))
    ∙ total_ext n _ _ (λ i l. at i (ℕ_discrete i w))
  where
    at : (i : ℕ) → Dec (i ≡ w) → counted (set states w v) i + onlyℕ w i 1 ≡ counted states i
    at i (yes q) = rw (q, get_or-set_same states w v 0 (rw e h), free, le-ltb 1 v low, eq-eqb w w refl)
    at i (no q) = rw (get_or-set_other states w i v 0 q, ne_eqb w i (λ x. q (sym x))) (omega arith)

pub free_left : (s : List ℕ) (n at k : ℕ) → first_of (pin_number s n at) k ≡ 0 → total n (counted (states_of s n at k)) + k ≡ n
unfolding first_of
free_left s n at zero e = rw (← states_begin s n at) (all ∙ mul-one n)
  where
    all : total n (counted (replicate n free_state)) + 0 ≡ n * 1
    all = omega (arith, total_ext n (counted (replicate n free_state)) (λ i. 1) (λ i l. rw (get_or-replicate {A = ℕ} n i free_state 0 l)) ∙ total_const n 1)
free_left s n at (suc k) e =
    let earlier = both _ _ e in
    let p = accepted s n at k earlier.1 in
    let free = eqb-true _ _ (not-false _ (seen s n at k earlier.0 p.wagon ∙ p.new)) in
    let less = one_less n (states_of s n at k) (pin_wagon s at k) (pin_store s at k) (length_states s n at k) p.wagon free p.store in
    let same : total n (counted (set (states_of s n at k) (pin_wagon s at k) (pin_store s at k))) ≡ total n (counted (states_of s n at (suc k))) = rw (states_next s n at k, add-one k) in
    omega (arith, free_left s n at k earlier.0)

pub length_kept_total : (keep : ℕ → Bool) (n : ℕ) → length (kept keep (λ i. i) n) ≡ total n (λ i. cond (keep i) 1 0)
unfolding kept total
length_kept_total keep zero = refl
length_kept_total keep (suc n) = length-append (kept keep (λ i. i) n) (only_if (keep n) n) ∙ go (keep n) (length_kept_total keep n)
  where
    go : (t : Bool) → length (kept keep (λ i. i) n) ≡ total n (λ i. cond (keep i) 1 0) → length (kept keep (λ i. i) n) + length (only_if t n) ≡ total n (λ i. cond (keep i) 1 0) + cond t 1 0
    go true e = omega arith
    go false e = omega arith

-- the free wagons in rising order are n less the pins
pub free_kept : (s : List ℕ) (n at count : ℕ) → first_of (pin_number s n at) count ≡ 0 → length (kept (λ i. ltb 1 (elem (states_of s n at count) i)) (λ i. i) n) + count ≡ n
free_kept s n at count e =
    let l = length_kept_total (λ i. ltb 1 (elem (states_of s n at count) i)) n in
    ap (λ (k : ℕ). k + count) l ∙ free_left s n at count e
