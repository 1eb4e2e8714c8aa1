-- What an accepted record holds.
--     fields          its sizes and the places of its parts
--     pin_accepted, pins_apart, state_pinned, state_free, states_free    its pins, the states that they leave, and how many wagons are free
use Prim.Native.Nat.{ℕ, ◌+◌, ◌-◌, ◌*◌, ◌<◌, ◌≤◌}
use mathlib.Core.Path.{◌≡◌, refl, sym, ap, ◌∙◌}
use mathlib.Core.Bool.{Bool, true, false, cond, not, not-not}
use mathlib.Core.List.{List, []}
use native.Mathlib.Omega.{arith}
use borrow.Author.Tests.{ltb-false}
use lib.ListN.{length, replicate}
use lib.Dec.{ltb}
use Rattle.laws.specs.Lists.{elem, kept}
use Rattle.laws.specs.Refusal.{first, first_of}
use Rattle.laws.proofs.Refusal.{clear, each, first_head, first_rest}
use Rattle.limits.specs.Limits.{most_wagons, most_entries, most_start, most_bytes, most_drawn}
use Rattle.job_record.specs.Versions.{versions}
use Rattle.job_record.specs.Fields.{version, wagons, entry_count, entry_at, costs_end, pins_place, pin_at, free_state, pin_count_by, free_by, settings_by, rank_at, most_at, start_at}
use Rattle.job_record.specs.Number.{pin_number, pins_numbers, pins_numbers_by, job_number}
use Rattle.std.specs.Prelude.{Option}
use Rattle.job_reader.specs.Bytes.{big_endian, field_at, value_of, place_after}
use Rattle.job_record.specs.declared.reading.HeadValues.{HeadValues}
use Rattle.job_record.specs.Reading.{SettingsValues, HeadThere, settings_from, settings_values}
use Rattle.job_record.specs.Values.{pin_count, free_wagons, settings_place, draws_place, draws_by, job_pin_wagon, job_pin_store, states_of, job_states, job_rank, job_start_count, job_drawn}
use Rattle.run_limits.proofs.Ranks.{meant_low}
use Rattle.run_limits.proofs.Starts.{start_low}
use Rattle.job_record.proofs.Sections.{Settings, Draws, head, run}
use Rattle.job_record.proofs.Whole.{passed}
use Rattle.job_record.proofs.Pinning.{Pin, accepted, apart, pin_held, other_free, states_begin, length_states, free_left, free_kept}
use Rattle.job_record.proofs.FieldByField.{SettingsThere, settings_values_are, field_there}

-- ---- pins that aren't refused

pub record Pins (s : List ℕ) : Type 0 where
  pub each : first_of (pin_number s (wagons s) (pins_place s + 1)) (pin_count s) ≡ 0
  pub few : free_wagons s + pin_count s ≡ wagons s
  pub behind : pins_place s ≤ settings_place s
  pub reach : settings_place s ≤ pins_place s + 1 + pin_count s * 2

some_pins : (s : List ℕ) (n at : ℕ) → first (pins_numbers s n at) ≡ 0 → first_of (pin_number s n (at + 1)) (big_endian s at 1) ≡ 0
unfolding pins_numbers
some_pins s n at e = first_head _ _ (first_rest _ _ e)

module _ (s : List ℕ) (e : first (pins_numbers_by versions s) ≡ 0) where
  each_pin : first_of (pin_number s (wagons s) (pins_place s + 1)) (pin_count s) ≡ 0
  unfolding pins_numbers_by pin_count_by first_of
  each_pin = go (versions.pinned (version s)) e
    where
      go : (t : Bool) → first (cond t (pins_numbers s (wagons s) (pins_place s)) []) ≡ 0 → first_of (pin_number s (wagons s) (pins_place s + 1)) (cond t (big_endian s (pins_place s) 1) 0) ≡ 0
      go true e = some_pins s (wagons s) (pins_place s) e
      go false e = refl

  pub pins_passed : Pins s
  unfolding free_by settings_by
  pins_passed =
      let left = free_left s (wagons s) (pins_place s + 1) (pin_count s) each_pin in
      record { each = each_pin; few = omega arith; behind = behind (versions.pinned (version s)); reach = reach (versions.pinned (version s)) }
    where
      behind : (t : Bool) → pins_place s ≤ cond t (pin_at (pins_place s + 1) (pin_count s)) (pins_place s)
      behind true = omega arith
      behind false = omega arith

      reach : (t : Bool) → cond t (pin_at (pins_place s + 1) (pin_count s)) (pins_place s) ≤ pins_place s + 1 + pin_count s * 2
      reach true = omega arith
      reach false = omega arith

-- the values of a head that was there
module _ (s : List ℕ) {head : HeadValues} (there : HeadThere s head) where
  pub costs_place : {at : ℕ} → at ≡ costs_end head.n head.count → at ≡ pins_place s
  costs_place e = e ∙ ap (λ (n : ℕ). costs_end n head.count) there.n ∙ ap (costs_end (wagons s)) there.count

  pub version_is : {b t : Bool} → b ≡ versions.pinned head.version → b ≡ t → versions.pinned (version s) ≡ t
  version_is e is = ap (λ (v : ℕ). versions.pinned v) (sym there.version) ∙ sym e ∙ is

  pub version_pinned : {b t : Bool} → b ≡ versions.pinned head.version → not b ≡ t → versions.pinned (version s) ≡ not t
  version_pinned {b} e is = version_is e (sym (not-not b) ∙ ap not is)

-- the numbers of the pins of a version with pins
pub version_some : (s : List ℕ) → versions.pinned (version s) ≡ true → first (pins_numbers s (wagons s) (pins_place s)) ≡ first (pins_numbers_by versions s)
unfolding pins_numbers_by
version_some s t = rw t

pub free_is : (s : List ℕ) {n pins : ℕ} → n ≡ wagons s → pins ≡ pin_count s → n - pins ≡ free_wagons s
unfolding free_by
free_is s e p = rw (e, p)

-- a version without pins
pub unpinned : (s : List ℕ) → versions.pinned (version s) ≡ false → (0 ≡ pin_count s) × (wagons s ≡ free_wagons s) × (pins_place s ≡ settings_place s)
unfolding pin_count_by free_by settings_by
unpinned s t = rw t (refl, omega arith, refl)

-- a version with pins, and its pin count as it was read
module _ (s : List ℕ) (e : first (pins_numbers_by versions s) ≡ 0) (t : versions.pinned (version s) ≡ true) where
  count_there : pins_place s + 1 ≤ length s
  unfolding pins_numbers_by pins_numbers
  count_there = ltb-false (length s) (pins_place s + 1) (clear _ 10 (first_head _ _ (rw t at e)))

  count_is : big_endian s (pins_place s) 1 ≡ pin_count s
  unfolding pin_count_by
  count_is = rw t

  pub settings_are : pins_place s + 1 + pin_count s * 2 ≡ settings_place s
  unfolding settings_by
  settings_are = rw t

-- the same of what the calls gave
pub pins_read : (s : List ℕ) {head : HeadValues} → HeadThere s head → first (pins_numbers_by versions s) ≡ 0 → {b : Bool} {at pins : ℕ} {read : Option ℕ}
    → b ≡ versions.pinned head.version → not b ≡ false → at ≡ costs_end head.n head.count → read ≡ field_at s at 1 → pins ≡ value_of read
    → (pins ≡ pin_count s) × (at + 1 + pins * 2 ≡ settings_place s) × (pins ≤ head.n)
pins_read s there e {at = at} v carries a r q =
    let t = version_pinned s there v carries in let place = costs_place s there a in
    let count = q ∙ ap value_of (field_there s at 1 r (omega (arith, count_there s e t))) ∙ ap (λ (p : ℕ). big_endian s p 1) place ∙ count_is s e t in
    (count, omega (arith, settings_are s e t), omega (arith, (pins_passed s e).few))

-- ---- an accepted record

pub record Fields (s : List ℕ) : Type 0 where
  pub small : length s ≤ most_bytes
  pub there : 8 ≤ length s
  pub few : wagons s ≤ most_wagons
  pub short : entry_count s ≤ most_entries
  pub entries_end : entry_at (entry_count s) + wagons s * 8 ≡ pins_place s
  pub pins : Pins s
  pub settings : Settings s (settings_place s)
  pub start_end : settings_place s + 36 + job_start_count s * 8 ≡ draws_place s
  pub draws : Draws s (draws_place s) (job_rank s)
  pub draws_end : draws_place s + 2 + job_drawn s * 8 ≡ length s

pub fields : (s : List ℕ) → job_number s ≡ 0 → Fields s
unfolding draws_by
fields s e =
    let p = passed s e in
    let h = head s p.head in
    let (settings, draws) = run s (free_wagons s) (settings_place s) p.run in
    record {
      small = h.small;
      there = h.there;
      few = h.few;
      short = h.short;
      entries_end = refl;
      pins = pins_passed s p.pins;
      settings = settings;
      start_end = refl;
      draws = draws;
      draws_end = draws.end;
    }

-- at most as many wagons are free as there are
pub free_few : (s : List ℕ) → job_number s ≡ 0 → free_wagons s ≤ most_wagons
free_few s e = omega (arith, fields s e)

-- its states: a byte a wagon, and so many of them free as are left
pub states_length : (s : List ℕ) → length (job_states s) ≡ wagons s
unfolding job_states
states_length s = length_states s _ _ _

pub states_free : (s : List ℕ) → job_number s ≡ 0 → length (kept (λ i. ltb 1 (elem (job_states s) i)) (λ i. i) (wagons s)) ≡ free_wagons s
unfolding job_states
states_free s e =
    let p = (fields s e).pins in
    omega (arith, free_kept _ _ _ _ p.each)

-- its pins: each of a wagon, in a store, no wagon twice; a pinned wagon's state is its store, every other wagon is free
module _ (s : List ℕ) (e : job_number s ≡ 0) where
  pub pin_accepted : (k : ℕ) → k < pin_count s → Pin s (wagons s) (pins_place s + 1) k
  pin_accepted k l = accepted _ _ _ _ (each _ _ (fields s e).pins.each k l)

  pub pins_apart : (i j : ℕ) → i < j → j < pin_count s → job_pin_wagon s i ≡ job_pin_wagon s j → ⊥
  pins_apart = apart _ _ _ _ (fields s e).pins.each

  pub state_pinned : (k : ℕ) → k < pin_count s → elem (job_states s) (job_pin_wagon s k) ≡ job_pin_store s k
  unfolding job_states
  state_pinned = pin_held _ _ _ _ (fields s e).pins.each

  pub state_free : (w : ℕ) → w < wagons s → ((k : ℕ) → k < pin_count s → job_pin_wagon s k ≡ w → ⊥) → elem (job_states s) w ≡ free_state
  unfolding job_states
  state_free = other_free _ _ _ _ (fields s e).pins.each

-- its states, as they were read
pub states_none : (s : List ℕ) → versions.pinned (version s) ≡ false → job_states s ≡ replicate (wagons s) free_state
unfolding job_states pin_count_by
states_none s t = rw t (sym (states_begin s (wagons s) (pins_place s + 1)))

module _ (s : List ℕ) (e : job_number s ≡ 0) {head : HeadValues} (there : HeadThere s head) (t : versions.pinned (version s) ≡ true) {at : ℕ} (is : at ≡ costs_end head.n head.count) where
  pub pins_zero : {r : ℕ} → r ≡ first (pins_numbers s head.n at) → r ≡ 0
  pins_zero q =
      q ∙ ap (λ (n : ℕ). first (pins_numbers s n at)) there.n ∙ ap (λ (p : ℕ). first (pins_numbers s (wagons s) p)) (costs_place s there is)
      ∙ version_some s t ∙ (passed s e).pins

  pub states_read : {l : List ℕ} → l ≡ states_of s head.n (at + 1) (big_endian s at 1) → l ≡ job_states s
  unfolding job_states
  states_read q =
      q ∙ ap (λ (n : ℕ). states_of s n (at + 1) (big_endian s at 1)) there.n ∙ ap (λ (p : ℕ). states_of s (wagons s) (p + 1) (big_endian s p 1)) (costs_place s there is)
      ∙ ap (states_of s (wagons s) (pins_place s + 1)) (count_is s (passed s e).pins t)

-- its start's doubles and its draws' numbers have room in slices of fixed length
pub start_fits : (s : List ℕ) → job_number s ≡ 0 → job_start_count s ≤ most_start
start_fits s e =
    let f = fields s e in
    start_low (start_at s (settings_place s)) (free_wagons s + 1) (job_rank s) (most_at s (settings_place s)) (omega (arith, free_few s e)) (meant_low (free_wagons s + 1) (rank_at s (settings_place s)) (omega (arith, free_few s e)) f.settings.rank)

pub drawn_fits : (s : List ℕ) → job_number s ≡ 0 → job_drawn s ≤ most_drawn
drawn_fits s e = omega (arith, fields s e)

-- its settings, as they were read
pub settings_held : (s : List ℕ) → job_number s ≡ 0 → (v : SettingsValues) → v ≡ settings_values (settings_from s (settings_place s)) → SettingsThere s (settings_place s) v
settings_held s z v e = settings_values_are s (settings_place s) refl e (fields s z).settings.there

-- its draw count, as it was read
pub drawn_held : (s : List ℕ) → job_number s ≡ 0 → {at : ℕ} {drawn : Option ℕ} → at ≡ draws_place s → drawn ≡ field_at s at 2 → (value_of drawn ≡ big_endian s (draws_place s) 2) × (place_after drawn at 2 ≡ draws_place s + 2)
drawn_held s z {at} e f =
    let there = field_there s at 2 f (omega (arith, (fields s z).draws.there)) in
    (ap value_of there ∙ ap (λ (p : ℕ). big_endian s p 2) e, ap (λ (d : Option ℕ). place_after d at 2) there ∙ ap (λ (p : ℕ). p + 2) e)
