-- Jobs, computed. 01's example: n 1, H_00 = 2, c_0 = −3, rank 0, rule 3 (number 0), sweeps 0 and 0, tolerances 0, W 1, start signs 1.0 1.0,
-- one draw 1.0 0.0; length field 92.
use Prim.Native.Nat.{ℕ, ◌-◌, ◌*◌, ◌/◌, ◌%◌}
use mathlib.Core.Path.{◌≡◌, refl}
use mathlib.Core.List.{List, [], ◌∷◌, ◌++◌, map}
use lib.ListN.{length, replicate, set, take}
use lib.IntN.{pos, negsuc}
use lib.Ieee.{of_bits, of_fields, odd, climb, size, span, le, lt}
use Rattle.laws.specs.Refusal.{or_else, first, first_of, any_of}
use Rattle.laws.specs.Lists.{any_below}
use Rattle.laws.specs.Turns.{up_to}
use Rattle.laws.specs.Sum.{total}
use Rattle.ieee.specs.Floats.{zero64, one64}
use Rattle.tables.specs.Check.{before, bad_entry, unmirrored}
use Rattle.tables.specs.Rank.{root_from, least_root, default_rank}
use Rattle.job_reader.specs.Bytes.{big_endian}
use Rattle.run_limits.specs.Rank.{rank_meant}
use Rattle.run_limits.specs.Start.{start_length}
use Rattle.job_record.specs.Versions.{versions}
use Rattle.job_record.specs.Fields.{row, column, value, pin_count_by, free_by, settings_by}
use Rattle.job_record.specs.Number.{bounded_number, frame_number, version_number, entry_number, pinned_before, pin_number, momentum_number, head_numbers, entries_numbers, costs_numbers, pins_numbers, pins_numbers_by, settings_numbers, draws_numbers, run_numbers, number_by, job_number}
use Rattle.job_record.specs.Values.{pin_count, free_wagons, states_of, job_states, draws_by, job_by, job_of, job_cost, job_rank, job_start_count, job_start, job_drawn, job_draw}

unfoldable pub example : List ℕ
example =
    (0 ∷ 0 ∷ 0 ∷ 92 ∷ 1 ∷ 1 ∷ 0 ∷ 1 ∷ [])
    ++ (0 ∷ 0 ∷ 0 ∷ 0 ∷ 0 ∷ 0 ∷ 0 ∷ 0 ∷ 0 ∷ 2 ∷ [])
    ++ (255 ∷ 255 ∷ 255 ∷ 255 ∷ 255 ∷ 255 ∷ 255 ∷ 253 ∷ [])
    ++ (0 ∷ 3 ∷ []) ++ replicate 32 0 ++ (1 ∷ 2 ∷ [])
    ++ (0x3f ∷ 0xf0 ∷ []) ++ replicate 6 0 ++ (0x3f ∷ 0xf0 ∷ []) ++ replicate 6 0
    ++ (0 ∷ 1 ∷ []) ++ (0x3f ∷ 0xf0 ∷ []) ++ replicate 14 0

pub example_accepted : job_number example ≡ 0
unfolding example big_endian versions pin_count_by free_by settings_by number_by head_numbers entries_numbers costs_numbers pins_numbers_by run_numbers settings_numbers draws_numbers frame_number version_number bounded_number entry_number momentum_number or_else first first_of any_of any_below total before bad_entry unmirrored root_from least_root default_rank rank_meant start_length
example_accepted = refl

pub example_job : job_of example
    ≡ record {
      n = 1;
      count = 1;
      pins = 0;
      free = 1;
      rank = 0;
      rule = 3;
      rule_number = zero64;
      most = 0;
      minimum = 0;
      objective_tolerance = zero64;
      stationarity_tolerance = zero64;
      width = 1;
      start = 2;
      draw_count = 1;
    }
unfolding example big_endian versions pin_count_by free_by settings_by draws_by job_by root_from least_root default_rank rank_meant start_length
example_job = refl

-- H and c; the rank that 0 means, the signs, and the draw
pub example_hall : ((row example 0 ∷ column example 0 ∷ []) ≡ (0 ∷ 0 ∷ [])) × ((value example 0 ∷ job_cost example 0 ∷ []) ≡ (pos 2 ∷ negsuc 2 ∷ []))
unfolding example big_endian
example_hall = (refl, refl)

pub example_numbers : ((job_rank example ∷ job_start_count example ∷ job_drawn example ∷ []) ≡ (2 ∷ 2 ∷ 2 ∷ []))
    × ((job_start example 0 ∷ job_start example 1 ∷ job_draw example 0 ∷ job_draw example 1 ∷ []) ≡ (one64 ∷ one64 ∷ one64 ∷ zero64 ∷ []))
unfolding example big_endian versions pin_count_by free_by settings_by draws_by root_from least_root default_rank rank_meant start_length
example_numbers = (refl, refl)

-- the example with other bytes at one place or two, and the number of each: fields are judged as read, and the first number comes
unfoldable pub refused : List (List ℕ)
refused =
    -- a wrong length, before a wrong version; a wrong version; n 128; 4,097 entries
    set (set example 3 91) 4 4 ∷ set example 4 4 ∷ set example 5 128 ∷ set (set example 6 16) 7 1
    -- row 1 of 1, before the magnitude; 2 entries, of which the second is out of order; the only entry out of range and cut short; a
    -- second entry cut short behind one out of range
    ∷ set (set example 8 1) 10 1 ∷ set example 7 2 ∷ (0 ∷ 0 ∷ 0 ∷ 13 ∷ 1 ∷ 1 ∷ 0 ∷ 1 ∷ 9 ∷ 9 ∷ replicate 7 0) ∷ (0 ∷ 0 ∷ 0 ∷ 15 ∷ 1 ∷ 1 ∷ 0 ∷ 2 ∷ 9 ∷ 9 ∷ replicate 9 0)
    -- a mirror absent, before c is cut short: n 2, one entry at (0, 1)
    ∷ (0 ∷ 0 ∷ 0 ∷ 14 ∷ 1 ∷ 2 ∷ 0 ∷ 1 ∷ 0 ∷ 1 ∷ replicate 7 0 ++ (1 ∷ []))
    -- the magnitude, before rank 33; rank 33, before rule 5; rule 5, before rank 0 with start 1; rank 0 with start 1
    ∷ set (set example 10 1) 26 33 ∷ set (set example 26 33) 27 5 ∷ set (set example 27 5) 61 1 ∷ set example 61 1
    -- momentum 1.0, and −0.0; W 129, before rank 0 with start 1; start 3; no draws; 1,001 draws
    ∷ set (set (set example 27 4) 28 0x3f) 29 0xf0 ∷ set (set example 27 4) 28 0x80 ∷ set (set example 60 129) 61 1 ∷ set example 61 3 ∷ set example 79 0 ∷ set (set example 78 3) 79 233
    -- the last byte absent; a byte left over
    ∷ set (take 95 example) 3 91 ∷ set (example ++ (0 ∷ [])) 3 93
    ∷ []

pub refusals : map job_number refused ≡ (11 ∷ 12 ∷ 13 ∷ 13 ∷ 14 ∷ 14 ∷ 11 ∷ 14 ∷ 15 ∷ 16 ∷ 17 ∷ 18 ∷ 17 ∷ 18 ∷ 0 ∷ 19 ∷ 19 ∷ 19 ∷ 19 ∷ 11 ∷ 11 ∷ [])
unfolding refused example big_endian versions pin_count_by free_by settings_by number_by head_numbers entries_numbers costs_numbers pins_numbers_by pins_numbers pin_number pinned_before run_numbers settings_numbers draws_numbers frame_number version_number bounded_number entry_number momentum_number or_else first first_of any_of any_below total before bad_entry unmirrored root_from least_root default_rank rank_meant start_length of_bits of_fields odd climb size span le lt
refusals = refl

-- ---- pins: n 2, H_01 = H_10 = 3, c = −1, −1; the settings of above, start signs 1.0 each and one draw 1.0 0.0 ..

abbrev lengthened : List ℕ → List ℕ
lengthened body = 0 ∷ 0 ∷ length body / 256 ∷ length body % 256 ∷ body

abbrev hall : List ℕ
hall = (2 ∷ 2 ∷ 0 ∷ 2 ∷ 0 ∷ 1 ∷ []) ++ replicate 7 0 ++ (3 ∷ 1 ∷ 0 ∷ []) ++ replicate 7 0 ++ (3 ∷ []) ++ replicate 16 255

abbrev settings : List ℕ
settings = (0 ∷ 3 ∷ []) ++ replicate 32 0 ++ (1 ∷ 2 ∷ [])

abbrev one : List ℕ
one = (0x3f ∷ 0xf0 ∷ []) ++ replicate 6 0

-- a draw of rank numbers
abbrev draw : ℕ → List ℕ
draw rank = (0 ∷ 1 ∷ []) ++ one ++ replicate ((rank - 1) * 8) 0

-- wagon 0 pinned to 0; both pinned, wagon 1 to 1; none; and of no wagons
unfoldable pub pinned : List ℕ
pinned = lengthened (hall ++ (1 ∷ 0 ∷ 0 ∷ []) ++ settings ++ one ++ one ++ draw 2)

unfoldable pub all_pinned : List ℕ
all_pinned = lengthened (hall ++ (2 ∷ 1 ∷ 1 ∷ 0 ∷ 0 ∷ []) ++ settings ++ one ++ draw 1)

unfoldable pub none_pinned : List ℕ
none_pinned = lengthened (hall ++ (0 ∷ []) ++ settings ++ one ++ one ++ one ++ draw 3)

unfoldable pub no_wagons : List ℕ
no_wagons = lengthened ((2 ∷ 0 ∷ 0 ∷ 0 ∷ 0 ∷ []) ++ settings ++ one ++ draw 1)

pub pinned_accepted : map job_number (pinned ∷ all_pinned ∷ none_pinned ∷ no_wagons ∷ []) ≡ (0 ∷ 0 ∷ 0 ∷ 0 ∷ [])
unfolding pinned all_pinned none_pinned no_wagons big_endian versions pin_count_by free_by settings_by number_by head_numbers entries_numbers costs_numbers pins_numbers_by pins_numbers pin_number pinned_before run_numbers settings_numbers draws_numbers frame_number version_number bounded_number entry_number momentum_number or_else first first_of any_of any_below total before bad_entry unmirrored root_from least_root default_rank rank_meant start_length
pinned_accepted = refl

-- the wagons' states; pins, free wagons, the rank that 0 means, the start's doubles and the draws' numbers of each
pub pinned_states : map job_states (pinned ∷ all_pinned ∷ none_pinned ∷ no_wagons ∷ []) ≡ ((0 ∷ 2 ∷ []) ∷ (0 ∷ 1 ∷ []) ∷ (2 ∷ 2 ∷ []) ∷ [] ∷ [])
unfolding pinned all_pinned none_pinned no_wagons big_endian versions pin_count_by job_states states_of up_to
pinned_states = refl

abbrev sizes : List ℕ → List ℕ
sizes s = pin_count s ∷ free_wagons s ∷ job_rank s ∷ job_start_count s ∷ job_drawn s ∷ []

pub pinned_sizes : map sizes (pinned ∷ all_pinned ∷ none_pinned ∷ no_wagons ∷ [])
    ≡ ((1 ∷ 1 ∷ 2 ∷ 2 ∷ 2 ∷ []) ∷ (2 ∷ 0 ∷ 1 ∷ 1 ∷ 1 ∷ []) ∷ (0 ∷ 2 ∷ 3 ∷ 3 ∷ 3 ∷ []) ∷ (0 ∷ 0 ∷ 1 ∷ 1 ∷ 1 ∷ []) ∷ [])
unfolding pinned all_pinned none_pinned no_wagons big_endian versions pin_count_by free_by settings_by draws_by root_from least_root default_rank rank_meant start_length
pinned_sizes = refl

unfoldable pub pins_refused : List (List ℕ)
pins_refused =
    -- cut before each byte: pin count, wagon, store, the second pin's wagon and store, rank
    lengthened hall ∷ lengthened (hall ++ (1 ∷ [])) ∷ lengthened (hall ++ (1 ∷ 0 ∷ [])) ∷ lengthened (hall ++ (2 ∷ 0 ∷ 0 ∷ []))
    ∷ lengthened (hall ++ (2 ∷ 0 ∷ 0 ∷ 1 ∷ [])) ∷ lengthened (hall ++ (1 ∷ 0 ∷ 0 ∷ []))
    -- wagon 2 of 2, its store absent; wagon 0 twice, the second store absent; store 2; three pins of two wagons; a pin of no wagons
    ∷ lengthened (hall ++ (1 ∷ 2 ∷ [])) ∷ lengthened (hall ++ (2 ∷ 0 ∷ 0 ∷ 0 ∷ [])) ∷ lengthened (hall ++ (1 ∷ 0 ∷ 2 ∷ []))
    ∷ lengthened (hall ++ (3 ∷ 0 ∷ 0 ∷ 1 ∷ 1 ∷ 1 ∷ [])) ∷ lengthened (2 ∷ 0 ∷ 0 ∷ 0 ∷ 1 ∷ 0 ∷ 0 ∷ [])
    -- the magnitude, before wagon 9; store 2, before rank 33; rank 33; signs for all wagons; a version that isn't known
    ∷ set (set (set pinned 10 1) 20 1) 45 9 ∷ set (set pinned 46 2) 47 33 ∷ set pinned 47 33
    ∷ lengthened (hall ++ (1 ∷ 0 ∷ 0 ∷ []) ++ settings ++ one ++ one ++ one ++ draw 3) ∷ set pinned 4 4
    ∷ []

pub pin_refusals : map job_number pins_refused ≡ (11 ∷ 11 ∷ 11 ∷ 11 ∷ 11 ∷ 11 ∷ 21 ∷ 21 ∷ 21 ∷ 21 ∷ 21 ∷ 16 ∷ 21 ∷ 17 ∷ 19 ∷ 12 ∷ [])
unfolding pins_refused pinned big_endian versions pin_count_by free_by settings_by number_by head_numbers entries_numbers costs_numbers pins_numbers_by pins_numbers pin_number pinned_before run_numbers settings_numbers draws_numbers frame_number version_number bounded_number entry_number momentum_number or_else first first_of any_of any_below total before bad_entry unmirrored root_from least_root default_rank rank_meant start_length
pin_refusals = refl

-- ---- larger houses: heads of 127, 128 and 255 wagons in each version, c absent

abbrev begun : ℕ → ℕ → List ℕ
begun version n = 0 ∷ 0 ∷ 0 ∷ 4 ∷ version ∷ n ∷ 0 ∷ 0 ∷ []

pub larger_heads : map job_number (begun 1 127 ∷ begun 1 128 ∷ begun 2 127 ∷ begun 2 128 ∷ begun 3 128 ∷ begun 3 255 ∷ begun 4 128 ∷ []) ≡ (11 ∷ 13 ∷ 11 ∷ 13 ∷ 11 ∷ 11 ∷ 12 ∷ [])
unfolding big_endian versions pin_count_by free_by settings_by number_by head_numbers entries_numbers costs_numbers pins_numbers_by pins_numbers pin_number pinned_before run_numbers settings_numbers draws_numbers frame_number version_number bounded_number entry_number momentum_number or_else first first_of any_of any_below total before bad_entry unmirrored root_from least_root default_rank rank_meant start_length
larger_heads = refl

-- version 3, n 128, no entries, c 0, no pins; rank 1, the settings of above, signs 0.0 and one draw 0.0
unfoldable pub larger : List ℕ
larger = lengthened ((3 ∷ 128 ∷ 0 ∷ 0 ∷ []) ++ replicate 1024 0 ++ (0 ∷ 1 ∷ 3 ∷ []) ++ replicate 32 0 ++ (1 ∷ 2 ∷ []) ++ replicate 1032 0 ++ (0 ∷ 1 ∷ []) ++ replicate 8 0)

pub larger_accepted : job_number larger ≡ 0
unfolding larger big_endian versions pin_count_by free_by settings_by number_by head_numbers entries_numbers costs_numbers pins_numbers_by pins_numbers pin_number pinned_before run_numbers settings_numbers draws_numbers frame_number version_number bounded_number entry_number momentum_number or_else first first_of any_of any_below total before bad_entry unmirrored root_from least_root default_rank rank_meant start_length
larger_accepted = refl
