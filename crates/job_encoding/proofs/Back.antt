-- A job record written from values is read as those values.
--     wagons_back, count_back, row_back, column_back, value_back, cost_back    n, entry count, H and c
--     version_back, pin_count_back, free_back, pin_back                        version and pins
--     job_back                                                                 the settings
--     start_back, draw_back                                                    the start's doubles, and the draws
-- Assumes nothing.
use Prim.Native.Nat.{ℕ, ◌+◌, ◌-◌, ◌*◌, ◌^◌, ◌<◌, ◌≤◌}
use mathlib.Core.Path.{◌≡◌, refl, sym, ap, ap₂, ◌∙◌}
use mathlib.Core.Bool.{Bool, true, false, cond}
use mathlib.Core.List.{List, [], ◌++◌, append_assoc}
use native.Mathlib.Omega.{arith}
use lib.Dec.{T}
use lib.ListN.{length, get_or, length-append}
use lib.IntN.{ℤ, pos}
use lib.Ieee.{Float, nan, binary64, fits}
use Rattle.ieee.specs.Floats.{double_of, bits_of, signed_of, bits_of_signed}
use Rattle.job_reader.specs.Bytes.{big_endian, signed_at, double_at}
use Rattle.job_reader.specs.Encode.{bytes_of}
use Rattle.job_reader.proofs.Encode.{length_bytes_of, read_front, read_bytes, read_signed, read_double}
use Rattle.job_record.specs.Versions.{versions}
use Rattle.job_record.specs.Fields.{version, wagons, entry_count, row, column, value, pins_place, pin_at, rule_number_at, pin_count_by, free_by, settings_by}
use Rattle.job_record.specs.Values.{JobValues, pin_count, free_wagons, settings_place, draws_by, draws_place, job_by, job_of, job_cost, job_pin_wagon, job_pin_store, job_start, job_draw}
use Rattle.job_encoding.specs.Encode.{Entry, Pin, Values, each, entry_bytes, signed_bytes, double_bytes, pin_bytes, pins_bytes, settings_bytes, body_bytes, head_bytes, job_bytes}
use Rattle.job_encoding.specs.Allowed.{no_entry, entry_of, cost_in, no_pin, pin_of, free_in, Typed}
use Rattle.job_encoding.proofs.Each.{read_behind, length_each, read_each}

-- ---- parts of one size

pub entry_size : (e : Entry) → length (entry_bytes e) ≡ 10
unfolding entry_bytes
entry_size e = simp (length-append, length_bytes_of)

pub signed_size : (z : ℤ) → length (signed_bytes z) ≡ 8
unfolding signed_bytes
signed_size z = length_bytes_of 8 (bits_of_signed z)

pub double_size : (x : Float) → length (double_bytes x) ≡ 8
unfolding double_bytes
double_size x = length_bytes_of 8 (bits_of x)

pub pin_size : (p : Pin) → length (pin_bytes p) ≡ 2
unfolding pin_bytes
pin_size p = simp (length-append, length_bytes_of)

pub settings_size : (v : Values) → length (settings_bytes v) ≡ 36
unfolding settings_bytes
settings_size v = simp (length-append, length_bytes_of)

pub head_size : (rest version n count : ℕ) → length (head_bytes rest version n count) ≡ 8
unfolding head_bytes
head_size rest version n count = simp (length-append, length_bytes_of)

module _ (v : Values) where
  abbrev s : List ℕ
  s = job_bytes v

  abbrev n : ℕ
  n = length v.c

  abbrev count : ℕ
  count = length v.entries

  abbrev drawing : List ℕ
  drawing = bytes_of 2 v.draw_count ++ each double_bytes v.draws

  abbrev starting : List ℕ
  starting = each double_bytes v.start_numbers ++ drawing

  abbrev setting : List ℕ
  setting = settings_bytes v ++ starting

  abbrev pinning : List ℕ
  pinning = pins_bytes v ++ setting

  abbrev costing : List ℕ
  costing = each signed_bytes v.c ++ pinning

  -- how many bytes stand before the pins, and before the settings
  abbrev pub pins_from : ℕ
  pins_from = 8 + count * 10 + n * 8

  abbrev pub settings_from : ℕ
  settings_from = 8 + count * 10 + n * 8 + length (pins_bytes v)

  at_entries : (p w : ℕ) → big_endian s (8 + p) w ≡ big_endian (each entry_bytes v.entries ++ costing) p w
  unfolding job_bytes body_bytes
  at_entries p w = read_behind (head_bytes (4 + length (body_bytes v)) v.version n count) (body_bytes v) 8 p w (head_size _ _ _ _)

  at_costs : (p w : ℕ) → big_endian s (8 + count * 10 + p) w ≡ big_endian costing p w
  at_costs p w =
      let e : 8 + count * 10 + p ≡ 8 + (count * 10 + p) = omega arith in
      ap (λ (q : ℕ). big_endian s q w) e ∙ at_entries (count * 10 + p) w
      ∙ read_behind (each entry_bytes v.entries) costing (count * 10) p w (length_each entry_bytes 10 entry_size v.entries)

  at_pins : (p w : ℕ) → big_endian s (pins_from + p) w ≡ big_endian pinning p w
  at_pins p w =
      let e : 8 + count * 10 + n * 8 + p ≡ 8 + count * 10 + (n * 8 + p) = omega arith in
      ap (λ (q : ℕ). big_endian s q w) e ∙ at_costs (n * 8 + p) w ∙ read_behind (each signed_bytes v.c) pinning (n * 8) p w (length_each signed_bytes 8 signed_size v.c)

  at_settings : (p w : ℕ) → big_endian s (settings_from + p) w ≡ big_endian setting p w
  at_settings p w =
      let e : 8 + count * 10 + n * 8 + length (pins_bytes v) + p ≡ 8 + count * 10 + n * 8 + (length (pins_bytes v) + p) = omega arith in
      ap (λ (q : ℕ). big_endian s q w) e ∙ at_pins (length (pins_bytes v) + p) w ∙ read_behind (pins_bytes v) setting (length (pins_bytes v)) p w refl

  at_start : (p w : ℕ) → big_endian s (settings_from + 36 + p) w ≡ big_endian starting p w
  at_start p w =
      let e : settings_from + 36 + p ≡ settings_from + (36 + p) = omega arith in
      ap (λ (q : ℕ). big_endian s q w) e ∙ at_settings (36 + p) w ∙ read_behind (settings_bytes v) starting 36 p w (settings_size v)

  at_draws : (p w : ℕ) → big_endian s (settings_from + 36 + length v.start_numbers * 8 + p) w ≡ big_endian drawing p w
  at_draws p w =
      let e : settings_from + 36 + length v.start_numbers * 8 + p ≡ settings_from + 36 + (length v.start_numbers * 8 + p) = omega arith in
      ap (λ (q : ℕ). big_endian s q w) e ∙ at_start (length v.start_numbers * 8 + p) w
      ∙ read_behind (each double_bytes v.start_numbers) drawing (length v.start_numbers * 8) p w (length_each double_bytes 8 double_size v.start_numbers)

head_n : (rest version n count : ℕ) (body : List ℕ) → n < 2 ^ 8 → big_endian (head_bytes rest version n count ++ body) 5 1 ≡ n
unfolding head_bytes bytes_of big_endian
head_n rest version n _ body h = read_bytes 1 n h

pin_wagon_lem : (p : Pin) → p.wagon < 2 ^ 8 → big_endian (pin_bytes p) 0 1 ≡ p.wagon
unfolding pin_bytes bytes_of big_endian
pin_wagon_lem p h = read_bytes 1 p.wagon h

pin_store_lem : (p : Pin) → p.store < 2 ^ 8 → big_endian (pin_bytes p) 1 1 ≡ p.store
unfolding pin_bytes bytes_of big_endian
pin_store_lem p h = read_bytes 1 p.store h

module _ (v : Values) (held : Typed v) where
  pub version_back : version (job_bytes v) ≡ v.version
  unfolding job_bytes head_bytes bytes_of big_endian
  version_back = read_bytes 1 v.version held.version

  pub wagons_back : wagons (job_bytes v) ≡ length v.c
  unfolding job_bytes
  wagons_back = head_n _ _ _ _ (body_bytes v) held.n

  pub count_back : entry_count (job_bytes v) ≡ length v.entries
  unfolding job_bytes head_bytes bytes_of big_endian
  count_back = read_bytes 2 (length v.entries) held.count

  entry_at : (k p w : ℕ) → k < length v.entries → p + w ≤ 10 → big_endian (job_bytes v) (8 + k * 10 + p) w ≡ big_endian (entry_bytes (entry_of v k)) p w
  entry_at k p w l h =
      let e : 8 + k * 10 + p ≡ 8 + (k * 10 + p) = omega arith in
      ap (λ (q : ℕ). big_endian (job_bytes v) q w) e ∙ at_entries v (k * 10 + p) w ∙ read_each entry_bytes 10 entry_size v.entries (costing v) no_entry k p w l h

  pub row_back : (k : ℕ) → k < length v.entries → row (job_bytes v) k ≡ (entry_of v k).row
  unfolding entry_bytes bytes_of big_endian
  row_back k l =
      let e : 8 + k * 10 ≡ 8 + k * 10 + 0 = omega arith in
      ap (λ (q : ℕ). big_endian (job_bytes v) q 1) e ∙ entry_at k 0 1 l (omega arith) ∙ read_bytes 1 _ (held.rows k l)

  pub column_back : (k : ℕ) → k < length v.entries → column (job_bytes v) k ≡ (entry_of v k).column
  unfolding entry_bytes bytes_of big_endian
  column_back k l = entry_at k 1 1 l (omega arith) ∙ read_bytes 1 _ (held.columns k l)

  pub value_back : (k : ℕ) → k < length v.entries → value (job_bytes v) k ≡ (entry_of v k).value
  unfolding entry_bytes bytes_of big_endian
  value_back k l = ap signed_of (entry_at k 2 8 l (omega arith)) ∙ read_signed _ (held.values k l)

  pub cost_back : (i : ℕ) → i < length v.c → job_cost (job_bytes v) i ≡ cost_in v i
  unfolding signed_bytes
  cost_back i l =
      let e : i * 8 ≡ i * 8 + 0 = omega arith in
      ap (λ (q : ℕ). signed_at (job_bytes v) (8 + q * 10 + i * 8)) count_back
      ∙ ap (λ (q : ℕ). signed_at (job_bytes v) (8 + length v.entries * 10 + q)) e
      ∙ ap signed_of (at_costs v (i * 8 + 0) 8 ∙ read_each signed_bytes 8 signed_size v.c (pinning v) (pos 0) i 0 8 l (omega arith))
      ∙ read_signed _ (held.costs i l)

-- ---- the pins

-- the bytes of a version that carries them, and of one that doesn't
module _ (v : Values) where
  some_pins : versions.pinned v.version ≡ true → pins_bytes v ≡ bytes_of 1 (length v.pins) ++ each pin_bytes v.pins
  unfolding pins_bytes
  some_pins t = rw t

  no_pins : versions.pinned v.version ≡ false → pins_bytes v ≡ []
  unfolding pins_bytes
  no_pins t = rw t

  pub some_size : versions.pinned v.version ≡ true → length (pins_bytes v) ≡ 1 + length v.pins * 2
  some_size t = rw (some_pins t) (simp (length-append, length_bytes_of, length_each pin_bytes 2 pin_size v.pins))

  pub no_size : versions.pinned v.version ≡ false → length (pins_bytes v) ≡ 0
  no_size t = rw (no_pins t)

module _ (v : Values) (held : Typed v) where
  pub pins_at : pins_place (job_bytes v) ≡ pins_from v
  pins_at = ap₂ (λ (count n : ℕ). 8 + count * 10 + n * 8) (count_back v held) (wagons_back v held)

  module _ (t : versions.pinned v.version ≡ true) where
    written : pinning v ≡ bytes_of 1 (length v.pins) ++ (each pin_bytes v.pins ++ setting v)
    written = ap (λ (l : List ℕ). l ++ setting v) (some_pins v t) ∙ append_assoc (bytes_of 1 (length v.pins)) (each pin_bytes v.pins) (setting v)

    count_read : big_endian (job_bytes v) (pins_place (job_bytes v)) 1 ≡ length v.pins
    count_read =
        let e : pins_place (job_bytes v) ≡ pins_from v + 0 = omega (arith, pins_at) in
        ap (λ (q : ℕ). big_endian (job_bytes v) q 1) e ∙ at_pins v 0 1 ∙ ap (λ (l : List ℕ). big_endian l 0 1) written
        ∙ read_front (bytes_of 1 (length v.pins)) (each pin_bytes v.pins ++ setting v) 0 1 (omega (arith, length_bytes_of 1 (length v.pins))) ∙ read_bytes 1 (length v.pins) held.pins

    pin_at_lem : (k p : ℕ) → k < length v.pins → p + 1 ≤ 2 → big_endian (job_bytes v) (pin_at (pins_place (job_bytes v) + 1) k + p) 1 ≡ big_endian (pin_bytes (pin_of v k)) p 1
    pin_at_lem k p l h =
        let e : pin_at (pins_place (job_bytes v) + 1) k + p ≡ pins_from v + (1 + (k * 2 + p)) = omega (arith, pins_at) in
        ap (λ (q : ℕ). big_endian (job_bytes v) q 1) e ∙ at_pins v (1 + (k * 2 + p)) 1 ∙ ap (λ (l : List ℕ). big_endian l (1 + (k * 2 + p)) 1) written
        ∙ read_behind (bytes_of 1 (length v.pins)) (each pin_bytes v.pins ++ setting v) 1 (k * 2 + p) 1 (length_bytes_of 1 (length v.pins))
        ∙ read_each pin_bytes 2 pin_size v.pins (setting v) no_pin k p 1 l h

  -- where there is a pin, the version carries pins
  carried : (k : ℕ) → k < length v.pins → versions.pinned v.version ≡ true
  carried k l = go (versions.pinned v.version) refl
    where
      go : (t : Bool) → versions.pinned v.version ≡ t → t ≡ true
      go true e = refl
      go false e = absurd (omega (arith, held.pinned e))

  pub pin_back : (k : ℕ) → k < length v.pins → (job_pin_wagon (job_bytes v) k ≡ (pin_of v k).wagon) × (job_pin_store (job_bytes v) k ≡ (pin_of v k).store)
  pin_back k l =
      let e : pin_at (pins_place (job_bytes v) + 1) k ≡ pin_at (pins_place (job_bytes v) + 1) k + 0 = omega arith in
      (ap (λ (q : ℕ). big_endian (job_bytes v) q 1) e ∙ pin_at_lem (carried k l) k 0 l (omega arith) ∙ pin_wagon_lem _ (held.wagons k l), pin_at_lem (carried k l) k 1 l (omega arith) ∙ pin_store_lem _ (held.stores k l))

  pub pin_count_back : pin_count (job_bytes v) ≡ length v.pins
  unfolding pin_count_by
  pin_count_back = rw (version_back v held) (go (versions.pinned v.version) refl)
    where
      go : (t : Bool) → versions.pinned v.version ≡ t → cond t (big_endian (job_bytes v) (pins_place (job_bytes v)) 1) 0 ≡ length v.pins
      go true e = count_read e
      go false e = sym (held.pinned e)

  pub free_back : free_wagons (job_bytes v) ≡ free_in v
  unfolding free_by
  free_back = ap₂ (λ (n p : ℕ). n - p) (wagons_back v held) pin_count_back

-- ---- the settings

same : {n n' count count' pins pins' free free' rank rank' rule rule' most most' minimum minimum' width width' start start' draws draws' : ℕ} {number number' objective objective' stationarity stationarity' : Float}
    → n ≡ n' → count ≡ count' → pins ≡ pins' → free ≡ free' → rank ≡ rank' → rule ≡ rule' → number ≡ number' → most ≡ most' → minimum ≡ minimum' → objective ≡ objective' → stationarity ≡ stationarity' → width ≡ width' → start ≡ start' → draws ≡ draws'
    → ◌≡◌ {A = JobValues} (record { n = n; count = count; pins = pins; free = free; rank = rank; rule = rule; rule_number = number; most = most; minimum = minimum; objective_tolerance = objective; stationarity_tolerance = stationarity; width = width; start = start; draw_count = draws })
    (record { n = n'; count = count'; pins = pins'; free = free'; rank = rank'; rule = rule'; rule_number = number'; most = most'; minimum = minimum'; objective_tolerance = objective'; stationarity_tolerance = stationarity'; width = width'; start = start'; draw_count = draws' })
same a b p q c d e f g h i j k l = rw (a, b, p, q, c, d, e, f, g, h, i, j, k, l)

module _ (v : Values) where
  pub set_rule : v.rule < 2 ^ 8 → big_endian (settings_bytes v) 1 1 ≡ v.rule
  unfolding settings_bytes bytes_of big_endian
  set_rule h = read_bytes 1 v.rule h

  pub set_number : T (fits binary64 v.rule_number) → double_of (big_endian (settings_bytes v) 2 8) ≡ v.rule_number
  unfolding settings_bytes bytes_of big_endian
  set_number h = read_double v.rule_number h

  set_most : v.most < 2 ^ 32 → big_endian (settings_bytes v) 10 4 ≡ v.most
  unfolding settings_bytes bytes_of big_endian
  set_most h = read_bytes 4 v.most h

  pub set_width : v.width < 2 ^ 8 → big_endian (settings_bytes v) 34 1 ≡ v.width
  unfolding settings_bytes bytes_of big_endian
  set_width h = read_bytes 1 v.width h

module _ (v : Values) (held : Typed v) where
  pub settings_at : settings_place (job_bytes v) ≡ settings_from v
  unfolding settings_by
  settings_at = rw (version_back v held) (go (versions.pinned v.version) refl)
    where
      go : (t : Bool) → versions.pinned v.version ≡ t → cond t (pin_at (pins_place (job_bytes v) + 1) (pin_count (job_bytes v))) (pins_place (job_bytes v)) ≡ settings_from v
      go true e = omega (arith, pins_at v held, pin_count_back v held, some_size v e)
      go false e = omega (arith, pins_at v held, no_size v e)

  pub setting_at : (p w : ℕ) → p + w ≤ 36 → big_endian (job_bytes v) (settings_place (job_bytes v) + p) w ≡ big_endian (settings_bytes v) p w
  setting_at p w h =
      ap (λ (q : ℕ). big_endian (job_bytes v) (q + p) w) settings_at ∙ at_settings v p w ∙ read_front (settings_bytes v) (starting v) p w (omega (arith, settings_size v))

  pub rank_is : big_endian (job_bytes v) (settings_place (job_bytes v)) 1 ≡ v.rank
  unfolding settings_bytes bytes_of big_endian
  rank_is =
      let e : settings_place (job_bytes v) ≡ settings_place (job_bytes v) + 0 = omega arith in
      ap (λ (q : ℕ). big_endian (job_bytes v) q 1) e ∙ setting_at 0 1 (omega arith) ∙ read_bytes 1 v.rank held.rank

  pub most_is : big_endian (job_bytes v) (settings_place (job_bytes v) + 10) 4 ≡ v.most
  most_is = setting_at 10 4 (omega arith) ∙ set_most v held.most

  pub start_is : big_endian (job_bytes v) (settings_place (job_bytes v) + 35) 1 ≡ v.start
  unfolding settings_bytes bytes_of big_endian
  start_is = setting_at 35 1 (omega arith) ∙ read_bytes 1 v.start held.start

  pub rule_is : big_endian (job_bytes v) (settings_place (job_bytes v) + 1) 1 ≡ v.rule
  rule_is = setting_at 1 1 (omega arith) ∙ set_rule v held.rule

  pub number_is : rule_number_at (job_bytes v) (settings_place (job_bytes v)) ≡ v.rule_number
  number_is = ap double_of (setting_at 2 8 (omega arith)) ∙ set_number v held.rule_number

  pub width_is : big_endian (job_bytes v) (settings_place (job_bytes v) + 34) 1 ≡ v.width
  width_is = setting_at 34 1 (omega arith) ∙ set_width v held.width

  pub draws_at : draws_place (job_bytes v) ≡ settings_from v + 36 + length v.start_numbers * 8
  unfolding draws_by
  draws_at = rw (start_is, free_back v held, rank_is, most_is, ← held.started, settings_at)

  pub drawn_is : big_endian (job_bytes v) (draws_place (job_bytes v)) 2 ≡ v.draw_count
  drawn_is =
      let e : draws_place (job_bytes v) ≡ settings_from v + 36 + length v.start_numbers * 8 + 0 = omega (arith, draws_at) in
      ap (λ (q : ℕ). big_endian (job_bytes v) q 2) e ∙ at_draws v 0 2
      ∙ read_front (bytes_of 2 v.draw_count) (each double_bytes v.draws) 0 2 (omega (arith, length_bytes_of 2 v.draw_count)) ∙ read_bytes 2 v.draw_count held.drawn

  pub job_back : job_of (job_bytes v)
      ≡ record {
        n = length v.c;
        count = length v.entries;
        pins = length v.pins;
        free = free_in v;
        rank = v.rank;
        rule = v.rule;
        rule_number = v.rule_number;
        most = v.most;
        minimum = v.minimum;
        objective_tolerance = v.objective_tolerance;
        stationarity_tolerance = v.stationarity_tolerance;
        width = v.width;
        start = v.start;
        draw_count = v.draw_count;
      }
  unfolding job_by settings_bytes bytes_of big_endian
  job_back =
      same (wagons_back v held) (count_back v held) (pin_count_back v held) (free_back v held) rank_is rule_is number_is most_is
      (setting_at 14 4 (omega arith) ∙ read_bytes 4 v.minimum held.minimum) (ap double_of (setting_at 18 8 (omega arith)) ∙ read_double v.objective_tolerance held.objective)
      (ap double_of (setting_at 26 8 (omega arith)) ∙ read_double v.stationarity_tolerance held.stationarity) width_is start_is drawn_is

  pub start_back : (i : ℕ) → i < length v.start_numbers → job_start (job_bytes v) i ≡ get_or v.start_numbers i nan
  unfolding double_bytes
  start_back i l =
      let e : settings_place (job_bytes v) + 36 + i * 8 ≡ settings_from v + 36 + (i * 8 + 0) = omega (arith, settings_at) in
      ap (λ (q : ℕ). double_at (job_bytes v) q) e
      ∙ ap double_of (at_start v (i * 8 + 0) 8 ∙ read_each double_bytes 8 double_size v.start_numbers (drawing v) nan i 0 8 l (omega arith))
      ∙ read_double _ (held.numbers i l)

  pub draw_back : (i : ℕ) → i < length v.draws → job_draw (job_bytes v) i ≡ get_or v.draws i nan
  unfolding double_bytes
  draw_back i l =
      let e : draws_place (job_bytes v) + 2 + i * 8 ≡ settings_from v + 36 + length v.start_numbers * 8 + (2 + (i * 8 + 0)) = omega (arith, draws_at) in
      ap (λ (q : ℕ). double_at (job_bytes v) q) e
      ∙ ap double_of (at_draws v (2 + (i * 8 + 0)) 8
      ∙ read_behind (bytes_of 2 v.draw_count) (each double_bytes v.draws) 2 (i * 8 + 0) 8 (length_bytes_of 2 v.draw_count)
      ∙ sym (read_front (each double_bytes v.draws) [] (i * 8 + 0) 8 (omega (arith, length_each double_bytes 8 double_size v.draws)))
      ∙ read_each double_bytes 8 double_size v.draws [] nan i 0 8 l (omega arith))
      ∙ read_double _ (held.draws i l)
