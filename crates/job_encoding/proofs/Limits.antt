-- Every list of values within 01's limits is held and allowed, so that its record is accepted.
--     limits_held, limits_allowed    from 01's words alone
--     limits_accepted                and so its number is 0
-- Assumes nothing.
use Prim.Native.Nat.{ℕ, ◌+◌, ◌*◌, ◌^◌, ◌<◌, ◌≤◌}
use mathlib.Core.Path.{◌≡◌, refl, sym, ◌∙◌}
use mathlib.Core.Logic.{◌⊎◌, inl, inr}
use mathlib.Core.Bool.{true, false}
use native.Mathlib.Omega.{arith}
use borrow.Author.Tests.{leb-true}
use lib.Dec.{T, leb}
use lib.ListN.{length, get_or}
use lib.IntN.{nat_abs}
use lib.Ieee.{nan, binary64, fits}
use mir.Syntax.{w64}
use Rattle.std.proofs.lemmas.Int.{fits_signed_from_abs}
use Rattle.laws.proofs.Sums.{total_at}
use Rattle.std.proofs.lemmas.Bool.{cases_lt, and_parts}
use Rattle.limits.specs.Limits.{most_entries, most_magnitude, most_rank, most_width, most_draws, last_rule, last_start, most_bytes}
use Rattle.tables.specs.Check.{Hall}
use Rattle.run_limits.specs.Start.{start_length}
use Rattle.run_limits.specs.Momentum.{is_momentum}
use Rattle.reduced.proofs.Pigeonhole.{pigeonhole}
use Rattle.job_record.specs.Versions.{known, versions}
use Rattle.job_record.specs.Fields.{last_store}
use Rattle.job_record.specs.Number.{job_number}
use Rattle.job_record.proofs.Sections.{most_wagons_lem}
use Rattle.job_encoding.specs.Encode.{Values, job_bytes}
use Rattle.job_encoding.specs.Allowed.{entry_of, cost_in, table_in, pin_of, free_in, rank_in, Typed, Allowed}
use Rattle.job_encoding.proofs.Accepted.{accepted_back}

known_byte : (v : ℕ) → known versions v ≡ true → v < 2 ^ 8
unfolding versions
known_byte v e = omega (arith, leb-true v versions.last (and_parts (leb 1 v) (leb v versions.last) e).1)

-- a known version, as many wagons as it allows, entries in range, in order and mirrored, and their magnitude; pins where the version carries them,
-- each of a wagon, no wagon twice, stores 0 and 1; rank, rule, momentum in range; most and minimum of 4 bytes, W, start, 1 with
-- a rank; the start's doubles, one draw or more, of rank doubles each; the bytes
module _ (v : Values)
    (version : known versions v.version ≡ true)
    (hall : Hall (versions.most v.version) most_entries most_magnitude (length v.c) (table_in v) (cost_in v))
    (pinned : versions.pinned v.version ≡ false → length v.pins ≡ 0)
    (within : (k : ℕ) → k < length v.pins → (pin_of v k).wagon < length v.c)
    (once : (j k : ℕ) → j < k → k < length v.pins → (pin_of v j).wagon ≡ (pin_of v k).wagon → ⊥)
    (stores : (k : ℕ) → k < length v.pins → (pin_of v k).store ≤ last_store)
    (rank : v.rank ≤ most_rank) (rule : v.rule ≤ last_rule) (momentum : v.rule ≡ 4 → is_momentum v.rule_number ≡ true)
    (most : v.most < 2 ^ 32) (minimum : v.minimum < 2 ^ 32)
    (width : v.width ≤ most_width) (start : v.start ≤ last_start) (given : v.start ≡ 1 → v.rank ≡ 0 → ⊥)
    (started : length v.start_numbers ≡ start_length v.start (free_in v + 1) (rank_in v) v.most)
    (some : 1 ≤ v.draw_count) (few : v.draw_count ≤ most_draws) (draws : length v.draws ≡ v.draw_count * rank_in v)
    (small : length (job_bytes v) ≤ most_bytes)
    -- the doubles are doubles
    (number : T (fits binary64 v.rule_number)) (objective : T (fits binary64 v.objective_tolerance)) (stationarity : T (fits binary64 v.stationarity_tolerance))
    (starts : (i : ℕ) → i < length v.start_numbers → T (fits binary64 (get_or v.start_numbers i nan)))
    (drawn : (i : ℕ) → i < length v.draws → T (fits binary64 (get_or v.draws i nan))) where
  wagon_byte : length v.c < 2 ^ 8
  wagon_byte = omega (arith, most_wagons_lem v.version)

  -- no more pins than wagons
  pins_few : length v.pins ≤ length v.c
  pins_few = pigeonhole (λ k w. (pin_of v k).wagon ≡ w) (length v.pins) (length v.c) (λ k l. ((pin_of v k).wagon, within k l, refl)) (λ i j w a b e f. same i j a b (e ∙ sym f) (cases_lt i j) (cases_lt j i))
    where
      same : (i j : ℕ) → i < length v.pins → j < length v.pins → (pin_of v i).wagon ≡ (pin_of v j).wagon → (i < j) ⊎ (j ≤ i) → (j < i) ⊎ (i ≤ j) → i ≡ j
      same i j a b e (inl x) y = absurd (once i j x b e)
      same i j a b e (inr x) (inl y) = absurd (once j i y a (sym e))
      same i j a b e (inr x) (inr y) = omega arith

  pub limits_held : Typed v
  limits_held =
      record {
        version = known_byte v.version version;
        n = wagon_byte;
        count = omega arith;
        rows = λ k l. omega (arith, hall.in_range.rows_in k l, wagon_byte);
        columns = λ k l. omega (arith, hall.in_range.cols_in k l, wagon_byte);
        values = λ k l. fits_signed_from_abs w64 (entry_of v k).value (omega (arith, total_at (length v.entries) k (λ j. nat_abs (entry_of v j).value) l));
        costs = λ i l. fits_signed_from_abs w64 (cost_in v i) (omega (arith, total_at (length v.c) i (λ j. nat_abs (cost_in v j)) l));
        pins = omega (arith, pins_few, wagon_byte);
        pinned = pinned;
        wagons = λ k l. omega (arith, within k l, wagon_byte);
        stores = λ k l. omega (arith, stores k l);
        rank = omega arith;
        rule = omega arith;
        rule_number = number;
        most = most;
        minimum = minimum;
        objective = objective;
        stationarity = stationarity;
        width = omega arith;
        start = omega arith;
        numbers = starts;
        drawn = omega arith;
        draws = drawn;
        started = started;
      }

  pub limits_allowed : Allowed v
  limits_allowed = record { known = version; hall = hall; within = within; once = once; stores = stores; rank = rank; rule = rule; momentum = momentum; width = width; start = start; given = given; some = some; few = few; draws = draws; small = small }

  pub limits_accepted : job_number (job_bytes v) ≡ 0
  limits_accepted = accepted_back v limits_held limits_allowed
