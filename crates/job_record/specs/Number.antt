-- The number of a job record (01, "Numbers from the input"; 02, Note 1): fields as read, an entry once it is read whole, 15 after the last
-- entry, 16 after the last c, 21 behind 16 with the pins, bytes left over last. 0: the job is accepted.
use Rattle.std.specs.Prelude.{ℕ, ◌+◌, ◌*◌, Bool, cond, ◌&&◌, ◌||◌, not, List, [], ◌∷◌, ◌++◌, length, leb, ltb, eqb}
use Rattle.laws.specs.Lists.{any_below}
use Rattle.laws.specs.Refusal.{◌if◌, or_else, first, first_of}
use Rattle.limits.specs.Limits.{most_entries, most_magnitude, most_rank, most_width, most_draws, last_rule, last_start, most_bytes}
use Rattle.tables.specs.Check.{bad_entry, unmirrored, hall_magnitude}
use Rattle.job_reader.specs.Bytes.{big_endian}
use Rattle.run_limits.specs.Momentum.{is_momentum}
use Rattle.job_record.specs.Versions.{Format, known, versions}
use Rattle.job_record.specs.Fields.{rest_length, version, wagons, entry_count, entry_at, row, column, entries, signed_from, costs_end, pins_place, pin_at, pin_wagon, last_store, free_by, settings_by, rank_at, rule_at, rule_number_at, start_at, rank_of, draws_after}

-- the record ends before `end`
abbrev pub ends_before : List ℕ → ℕ → Bool
ends_before s end = ltb (length s) end

-- a field of so many bytes: 11 past the end, then k above its limit
unfoldable pub bounded_number : List ℕ → ℕ → ℕ → ℕ → ℕ → ℕ
bounded_number s at width most k = first (11 if ends_before s (at + width) ∷ k if ltb most (big_endian s at width) ∷ [])

-- above 65,536 bytes, length wrong
unfoldable pub frame_number : List ℕ → ℕ
frame_number s =
    first
    (11 if ltb most_bytes (length s)
    ∷ 11 if ends_before s 4
    ∷ 11 if not (eqb (4 + rest_length s) (length s))
    ∷ [])

-- a version that the table doesn't know
unfoldable pub version_number : Format → List ℕ → ℕ
version_number format s = first (11 if ends_before s 5 ∷ 12 if not (known format (version s)) ∷ [])

-- entry k, once it is read whole
unfoldable pub entry_number : List ℕ → ℕ → ℕ → ℕ
entry_number s n k = first (11 if ends_before s (entry_at k + 10) ∷ 14 if bad_entry n (row s) (column s) k ∷ [])

-- an earlier pin has the same wagon
unfoldable pub pinned_before : List ℕ → ℕ → ℕ → Bool
pinned_before s at k = any_below k (λ j. eqb (pin_wagon s at j) (pin_wagon s at k))

-- pin k of those that start at `at`: its wagon, out of range or pinned twice; then its store, above 1
unfoldable pub pin_number : List ℕ → ℕ → ℕ → ℕ → ℕ
pin_number s n at k =
    first
    (11 if ends_before s (pin_at at k + 1)
    ∷ 21 if (leb n (pin_wagon s at k) || pinned_before s at k)
    ∷ bounded_number s (pin_at at k + 1) 1 last_store 21
    ∷ [])

-- the rule's number: 18 for a momentum out of range
unfoldable pub momentum_number : List ℕ → ℕ → ℕ
momentum_number s at =
    first (11 if ends_before s (at + 10) ∷ 18 if (eqb (rule_at s at) 4 && not (is_momentum (rule_number_at s at))) ∷ [])

-- frame, version, n, entry count
unfoldable pub head_numbers : Format → List ℕ → List ℕ
head_numbers format s =
    frame_number s
    ∷ version_number format s
    ∷ bounded_number s 5 1 (format.most (version s)) 13
    ∷ bounded_number s 6 2 most_entries 13
    ∷ []

-- each entry, then 15
unfoldable pub entries_numbers : List ℕ → ℕ → ℕ → List ℕ
entries_numbers s n count = first_of (entry_number s n) count ∷ 15 if unmirrored (entries s count) ∷ []

-- c, then 16
unfoldable pub costs_numbers : List ℕ → ℕ → ℕ → List ℕ
costs_numbers s n count =
    11 if ends_before s (costs_end n count)
    ∷ 16 if ltb most_magnitude (hall_magnitude n (entries s count) (signed_from s (entry_at count)))
    ∷ []

-- entries and c, as many as the head says
abbrev pub job_table_number : List ℕ → ℕ
job_table_number s = or_else (first (entries_numbers s (wagons s) (entry_count s))) (first (costs_numbers s (wagons s) (entry_count s)))

-- the pin count at `at`, then each pin
unfoldable pub pins_numbers : List ℕ → ℕ → ℕ → List ℕ
pins_numbers s n at = 11 if ends_before s (at + 1) ∷ first_of (pin_number s n (at + 1)) (big_endian s at 1) ∷ []

-- rank, rule, its number; most, minimum and the two tolerances; W, start, and a rank for a start of kind 1
unfoldable pub settings_numbers : List ℕ → ℕ → List ℕ
settings_numbers s at =
    bounded_number s at 1 most_rank 17
    ∷ bounded_number s (at + 1) 1 last_rule 18
    ∷ momentum_number s at
    ∷ 11 if ends_before s (at + 34)
    ∷ bounded_number s (at + 34) 1 most_width 19
    ∷ bounded_number s (at + 35) 1 last_start 19
    ∷ 17 if (eqb (start_at s at) 1 && eqb (rank_at s at) 0)
    ∷ []

-- the start's doubles, up to `at`; the draw count, the draws of rank doubles each, and nothing more
unfoldable pub draws_numbers : List ℕ → ℕ → ℕ → List ℕ
draws_numbers s at rank =
    11 if ends_before s at
    ∷ bounded_number s at 2 most_draws 19
    ∷ 19 if eqb (big_endian s at 2) 0
    ∷ 11 if ends_before s (at + 2 + big_endian s at 2 * rank * 8)
    ∷ 11 if ltb (at + 2 + big_endian s at 2 * rank * 8) (length s)
    ∷ []

-- the same for n wagons and the settings from `at` on
unfoldable pub run_numbers : List ℕ → ℕ → ℕ → List ℕ
run_numbers s n at = settings_numbers s at ++ draws_numbers s (draws_after s n at) (rank_of s n at)

-- by a table of versions: the pins of a version that carries them
unfoldable pub pins_numbers_by : Format → List ℕ → List ℕ
pins_numbers_by format s = cond (format.pinned (version s)) (pins_numbers s (wagons s) (pins_place s)) []

-- head, entries, c, pins, and the rest for the free wagons
unfoldable pub number_by : Format → List ℕ → ℕ
number_by format s =
    first
    (head_numbers format s
    ++ (entries_numbers s (wagons s) (entry_count s)
    ++ (costs_numbers s (wagons s) (entry_count s)
    ++ (pins_numbers_by format s
    ++ run_numbers s (free_by format s) (settings_by format s)))))

-- a job's number
abbrev pub job_number : List ℕ → ℕ
job_number s = number_by versions s
