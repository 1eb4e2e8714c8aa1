-- A record written from values that 01's limits allow is accepted.
--     accepted_back              its number is 0
--     state_back, state_left     a pinned wagon's state is its store, every other wagon is free
-- Assumes nothing.
use Prim.Native.Nat.{ℕ, ◌+◌, ◌*◌, ◌^◌, ◌<◌, ◌≤◌}
use mathlib.Core.Path.{◌≡◌, refl, sym, ap, ◌∙◌}
use mathlib.Core.Bool.{Bool, true, false, cond, not}
use mathlib.Core.List.{List, [], ◌∷◌, ◌++◌}
use native.Mathlib.Nat.{le_of_eq}
use native.Mathlib.Omega.{arith}
use borrow.Author.Tests.{le-ltb, lt-leb, eq-eqb, ne_eqb, eqb-true}
use lib.Dec.{ltb}
use lib.ListN.{length, length-append}
use Rattle.laws.specs.Lists.{elem}
use Rattle.laws.specs.Refusal.{◌if◌, first}
use Rattle.laws.proofs.Refusal.{neither, none_of}
use Rattle.std.proofs.lemmas.Bool.{or_from}
use Rattle.laws.proofs.Any.{false_and, below_false, below_none}
use Rattle.laws.proofs.Following.{moves_on, moves_on_if, answers_last, passes_last, first_append}
use Rattle.limits.specs.Limits.{most_entries, most_magnitude, most_rank, most_width, most_draws, last_rule, last_start}
use Rattle.tables.proofs.Checks.{order_passes, mirror_passes}
use Rattle.tables.specs.Check.{bad_entry, bad_order, hall_magnitude}
use Rattle.job_reader.specs.Bytes.{big_endian}
use Rattle.job_reader.specs.Encode.{bytes_of}
use Rattle.job_reader.proofs.Encode.{length_bytes_of, read_bytes}
use Rattle.run_limits.specs.Momentum.{is_momentum}
use Rattle.job_record.specs.Versions.{versions}
use Rattle.job_record.specs.Fields.{rest_length, version, wagons, entry_at, row, column, entries, signed_from, pins_place, pin_at, last_store, free_state, pin_count_by, rank_of}
use Rattle.job_record.specs.Number.{ends_before, bounded_number, frame_number, version_number, entry_number, pinned_before, pin_number, momentum_number, head_numbers, entries_numbers, costs_numbers, pins_numbers, pins_numbers_by, settings_numbers, draws_numbers, run_numbers, job_number}
use Rattle.job_record.specs.Values.{pin_count, free_wagons, settings_place, draws_by, draws_place, job_pin_wagon, job_states}
use Rattle.job_record.proofs.Same.{order_same, mirror_same, magnitude_same}
use Rattle.job_record.proofs.Whole.{parts}
use Rattle.job_record.proofs.Accepted.{state_pinned, state_free}
use Rattle.job_encoding.specs.Encode.{Values, entry_bytes, signed_bytes, double_bytes, body_bytes, head_bytes, job_bytes}
use Rattle.job_encoding.specs.Allowed.{cost_in, table_in, pin_of, Typed, Allowed}
use Rattle.job_encoding.proofs.Each.{length_each}
use Rattle.job_encoding.proofs.Back.{entry_size, signed_size, double_size, settings_size, head_size, settings_from, some_size, version_back, wagons_back, count_back, row_back, column_back, value_back, cost_back, pins_at, pin_back, pin_count_back, free_back, settings_at, rank_is, start_is, rule_is, number_is, width_is, draws_at, drawn_is}

-- a field that is there and within its limit
within : (s : List ℕ) (at width most k : ℕ) → at + width ≤ length s → big_endian s at width ≤ most → 0 ≡ bounded_number s at width most k
unfolding bounded_number
within s at width most k there low =
    moves_on_if 11 (ends_before s (at + width)) (k if ltb most (big_endian s at width) ∷ []) (le-ltb _ _ there) (passes_last k _ (le-ltb _ _ low))

head_rest : (rest version n count : ℕ) (body : List ℕ) → rest < 2 ^ 32 → big_endian (head_bytes rest version n count ++ body) 0 4 ≡ rest
unfolding head_bytes bytes_of big_endian
head_rest rest version n count body h = read_bytes 4 rest h

module _ (v : Values) where
  size : length (job_bytes v) ≡ settings_from v + 36 + length v.start_numbers * 8 + 2 + length v.draws * 8
  unfolding job_bytes body_bytes
  size =
      simp (
        length-append,
        head_size,
        length_each entry_bytes 10 entry_size v.entries,
        length_each signed_bytes 8 signed_size v.c,
        settings_size,
        length_each double_bytes 8 double_size v.start_numbers,
        length_bytes_of,
        length_each double_bytes 8 double_size v.draws,
      ) (omega arith)

  whole : length (job_bytes v) ≡ 8 + length (body_bytes v)
  unfolding job_bytes
  whole = simp (length-append, head_size)

module _ (v : Values) (held : Typed v) (ok : Allowed v) where
  count_is : versions.pinned v.version ≡ true → big_endian (job_bytes v) (pins_place (job_bytes v)) 1 ≡ pin_count (job_bytes v)
  unfolding pin_count_by
  count_is t = rw (version_back v held, t)

  rest_is : 4 + rest_length (job_bytes v) ≡ length (job_bytes v)
  unfolding job_bytes
  rest_is =
      let r = head_rest (4 + length (body_bytes v)) v.version (length v.c) (length v.entries) (body_bytes v) (omega (arith, whole v)) in
      omega (arith, r, whole v)

  frame : 0 ≡ frame_number (job_bytes v)
  unfolding frame_number
  frame =
      moves_on_if 11 _ _ (le-ltb _ _ ok.small)
      (moves_on_if 11 _ _ (le-ltb (length (job_bytes v)) 4 (omega (arith, size v)))
      (passes_last 11 _ (ap not (eq-eqb _ _ rest_is))))

  versioned : 0 ≡ version_number versions (job_bytes v)
  unfolding version_number
  versioned = rw (version_back v held) (moves_on_if 11 _ _ (le-ltb (length (job_bytes v)) 5 (omega (arith, size v))) (passes_last 12 _ (ap not ok.known)))

  head : first (head_numbers versions (job_bytes v)) ≡ 0
  unfolding head_numbers
  head =
      let h = ok.hall in
      let most : versions.most (version (job_bytes v)) ≡ versions.most v.version = ap (λ (n : ℕ). versions.most n) (version_back v held) in
      sym (moves_on _ _ {x = 0} frame refl (moves_on _ _ {x = 0} versioned refl
      (moves_on _ _ {x = 0} (within (job_bytes v) 5 1 (versions.most (version (job_bytes v))) 13 (omega (arith, size v)) (omega (arith, wagons_back v held))) refl
      (answers_last _ (within (job_bytes v) 6 2 most_entries 13 (omega (arith, size v)) (omega (arith, count_back v held)))))))

  ordered : bad_order (length v.c) (row (job_bytes v)) (column (job_bytes v)) (length v.entries) ≡ false
  ordered =
      let h = ok.hall in
      order_same _ _ _ _ (length v.entries) (λ k l. row_back v held k l) (λ k l. column_back v held k l) (length v.c)
      ∙ order_passes (length v.c) (table_in v) h.in_range h.rising

  judged : (k : ℕ) → k < length v.entries → entry_number (job_bytes v) (length v.c) k ≡ 0
  unfolding entry_number bad_order
  judged k l =
      sym (moves_on_if 11 _ _ (le-ltb (length (job_bytes v)) (8 + k * 10 + 10) (omega (arith, size v)))
      (passes_last 14 _ (below_false (bad_entry (length v.c) (row (job_bytes v)) (column (job_bytes v))) (length v.entries) ordered k l)))

  entered : first (entries_numbers (job_bytes v) (length v.c) (length v.entries)) ≡ 0
  unfolding entries_numbers
  entered =
      let h = ok.hall in
      sym (moves_on _ _ {x = 0} (sym (none_of _ (length v.entries) judged)) refl
      (passes_last 15 _
      (mirror_same _ _ _ _ (length v.entries) (λ k l. row_back v held k l) (λ k l. column_back v held k l) (λ k l. value_back v held k l)
      ∙ mirror_passes (table_in v) h.mirrored)))

  cost_at : (i : ℕ) → i < length v.c → signed_from (job_bytes v) (entry_at (length v.entries)) i ≡ cost_in v i
  cost_at i l = rw (← count_back v held) (cost_back v held i l)

  costed : first (costs_numbers (job_bytes v) (length v.c) (length v.entries)) ≡ 0
  unfolding costs_numbers
  costed =
      let h = ok.hall in
      let same : hall_magnitude (length v.c) (entries (job_bytes v) (length v.entries)) (signed_from (job_bytes v) (entry_at (length v.entries))) ≡ hall_magnitude (length v.c) (table_in v) (cost_in v) =
      magnitude_same (length v.c) (length v.entries) (λ k l. value_back v held k l) cost_at in
      sym (moves_on_if 11 _ _ (le-ltb (length (job_bytes v)) (8 + length v.entries * 10 + length v.c * 8) (omega (arith, size v)))
      (passes_last 16 _ (ap (ltb most_magnitude) same ∙ le-ltb _ _ h.magnitude)))

  -- each pin: within n, no wagon twice, a store
  pinned_once : (k : ℕ) → k < length v.pins → pinned_before (job_bytes v) (pins_place (job_bytes v) + 1) k ≡ false
  unfolding pinned_before
  pinned_once k l = below_none _ k (λ j m. ne_eqb _ _ (λ e. ok.once j k m l (sym (pin_back v held j (omega arith)).0 ∙ e ∙ (pin_back v held k l).0)))

  pin_there : versions.pinned v.version ≡ true → (k : ℕ) → k < length v.pins → pin_at (pins_place (job_bytes v) + 1) k + 2 ≤ length (job_bytes v)
  pin_there t k l = omega (arith, pins_at v held, some_size v t, size v)

  pin_passes : versions.pinned v.version ≡ true → (k : ℕ) → k < length v.pins → pin_number (job_bytes v) (wagons (job_bytes v)) (pins_place (job_bytes v) + 1) k ≡ 0
  unfolding pin_number
  pin_passes t k l =
      let there = pin_there t k l in
      sym (moves_on_if 11 _ _ (le-ltb (length (job_bytes v)) (pin_at (pins_place (job_bytes v) + 1) k + 1) (omega (arith, there)))
      (moves_on_if 21 _ _ (or_from _ _ (lt-leb (wagons (job_bytes v)) (job_pin_wagon (job_bytes v) k) (omega (arith, (pin_back v held k l).0, ok.within k l, wagons_back v held))) (pinned_once k l))
      (answers_last _ (within (job_bytes v) (pin_at (pins_place (job_bytes v) + 1) k + 1) 1 last_store 21 (omega (arith, there)) (omega (arith, (pin_back v held k l).1, ok.stores k l))))))

  pins_pass : versions.pinned v.version ≡ true → first (pins_numbers (job_bytes v) (wagons (job_bytes v)) (pins_place (job_bytes v))) ≡ 0
  unfolding pins_numbers
  pins_pass t =
      let count : big_endian (job_bytes v) (pins_place (job_bytes v)) 1 ≡ length v.pins = count_is t ∙ pin_count_back v held in
      sym (moves_on_if 11 _ _ (le-ltb (length (job_bytes v)) (pins_place (job_bytes v) + 1) (omega (arith, pins_at v held, some_size v t, size v)))
      (answers_last _ (rw count (sym (none_of (pin_number (job_bytes v) (wagons (job_bytes v)) (pins_place (job_bytes v) + 1)) (length v.pins) (pin_passes t))))))

  pinned : first (pins_numbers_by versions (job_bytes v)) ≡ 0
  unfolding pins_numbers_by first
  pinned = rw (version_back v held) (go (versions.pinned v.version) refl)
    where
      go : (t : Bool) → versions.pinned v.version ≡ t → first (cond t (pins_numbers (job_bytes v) (wagons (job_bytes v)) (pins_place (job_bytes v))) []) ≡ 0
      go true e = pins_pass e
      go false e = refl

  there : settings_place (job_bytes v) + 36 ≤ length (job_bytes v)
  there = omega (arith, settings_at v held, size v)

  momented : 0 ≡ momentum_number (job_bytes v) (settings_place (job_bytes v))
  unfolding momentum_number
  momented =
      moves_on_if 11 _ _ (le-ltb (length (job_bytes v)) (settings_place (job_bytes v) + 10) (omega (arith, there)))
      (passes_last 18 _ (false_and _ _ (λ e. ap not (ap is_momentum (number_is v held) ∙ ok.momentum (sym (rule_is v held) ∙ eqb-true _ _ e)))))

  settled : first (settings_numbers (job_bytes v) (settings_place (job_bytes v))) ≡ 0
  unfolding settings_numbers
  settled =
      let s = job_bytes v in
      let at = settings_place (job_bytes v) in
      sym (moves_on _ _ {x = 0} (within s at 1 most_rank 17 (omega (arith, there)) (omega (arith, rank_is v held))) refl
      (moves_on _ _ {x = 0} (within s (at + 1) 1 last_rule 18 (omega (arith, there)) (omega (arith, rule_is v held))) refl
      (moves_on _ _ {x = 0} momented refl
      (moves_on_if 11 _ _ (le-ltb (length s) (at + 34) (omega (arith, there)))
      (moves_on _ _ {x = 0} (within s (at + 34) 1 most_width 19 (omega (arith, there)) (omega (arith, width_is v held))) refl
      (moves_on _ _ {x = 0} (within s (at + 35) 1 last_start 19 (omega (arith, there)) (omega (arith, start_is v held))) refl
      (passes_last 17 _ (false_and _ _ (λ e. ne_eqb _ _ (λ z. ok.given (sym (start_is v held) ∙ eqb-true _ _ e) (sym (rank_is v held) ∙ z)))))))))))

  end_is : draws_place (job_bytes v) + 2 + big_endian (job_bytes v) (draws_place (job_bytes v)) 2 * rank_of (job_bytes v) (free_wagons (job_bytes v)) (settings_place (job_bytes v)) * 8 ≡ length (job_bytes v)
  end_is = rw (drawn_is v held, free_back v held, rank_is v held, ← ok.draws) (omega (arith, draws_at v held, size v))

  drawn : first (draws_numbers (job_bytes v) (draws_place (job_bytes v)) (rank_of (job_bytes v) (free_wagons (job_bytes v)) (settings_place (job_bytes v)))) ≡ 0
  unfolding draws_numbers
  drawn =
      let s = job_bytes v in
      let at = draws_place (job_bytes v) in
      sym (moves_on_if 11 _ _ (le-ltb (length s) at (omega (arith, draws_at v held, size v)))
      (moves_on _ _ {x = 0} (within s at 2 most_draws 19 (omega (arith, draws_at v held, size v)) (omega (arith, drawn_is v held))) refl
      (moves_on_if 19 _ _ (ne_eqb (big_endian s at 2) 0 (λ z. omega (arith, drawn_is v held)))
      (moves_on_if 11 _ _ (le-ltb _ _ (le_of_eq end_is))
      (passes_last 11 _ (le-ltb _ _ (le_of_eq (sym end_is))))))))

  run : first (run_numbers (job_bytes v) (free_wagons (job_bytes v)) (settings_place (job_bytes v))) ≡ 0
  unfolding run_numbers draws_by
  run = first_append (settings_numbers (job_bytes v) (settings_place (job_bytes v))) _ ∙ neither _ _ settled drawn

  pub accepted_back : job_number (job_bytes v) ≡ 0
  accepted_back =
      parts versions (job_bytes v)
      ∙ neither _ _ head (neither _ _ (neither _ _ (rw (wagons_back v held, count_back v held) entered) (rw (wagons_back v held, count_back v held) costed)) (neither _ _ pinned run))

  pub state_back : (k : ℕ) → k < length v.pins → elem (job_states (job_bytes v)) (pin_of v k).wagon ≡ (pin_of v k).store
  state_back k l =
      let p = pin_back v held k l in
      ap (elem (job_states (job_bytes v))) (sym p.0) ∙ state_pinned (job_bytes v) accepted_back k (omega (arith, pin_count_back v held)) ∙ p.1

  pub state_left : (w : ℕ) → w < length v.c → ((k : ℕ) → k < length v.pins → (pin_of v k).wagon ≡ w → ⊥) → elem (job_states (job_bytes v)) w ≡ free_state
  state_left w h d =
      state_free (job_bytes v) accepted_back w (omega (arith, wagons_back v held))
      (λ k l e. let m : k < length v.pins = omega (arith, pin_count_back v held) in d k m (sym (pin_back v held k m).0 ∙ e))
