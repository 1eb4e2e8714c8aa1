-- The fields of a job record in reading order (01, "Job and answer records"; the pins: 02, Note 1): where each stands, and what it holds.
use Rattle.std.specs.Prelude.{ℕ, ◌+◌, ◌-◌, ◌*◌, cond, List, ℤ, Float}
use Rattle.tables.specs.Table.{Table}
use Rattle.run_limits.specs.Rank.{rank_meant}
use Rattle.run_limits.specs.Start.{start_length}
use Rattle.job_reader.specs.Bytes.{big_endian, signed_at, double_at}
use Rattle.job_record.specs.Versions.{Format}

-- length of the rest (4), version (1), n (1), entry count (2)
abbrev pub rest_length : List ℕ → ℕ
rest_length s = big_endian s 0 4

abbrev pub version : List ℕ → ℕ
version s = big_endian s 4 1

abbrev pub wagons : List ℕ → ℕ
wagons s = big_endian s 5 1

abbrev pub entry_count : List ℕ → ℕ
entry_count s = big_endian s 6 2

-- entries (row 1, column 1, value 8 signed), and the table of the first of them
abbrev pub entry_at : ℕ → ℕ
entry_at k = 8 + k * 10

abbrev pub row : List ℕ → ℕ → ℕ
row s k = big_endian s (entry_at k) 1

abbrev pub column : List ℕ → ℕ → ℕ
column s k = big_endian s (entry_at k + 1) 1

abbrev pub value : List ℕ → ℕ → ℤ
value s k = signed_at s (entry_at k + 2)

abbrev pub entries : List ℕ → ℕ → Table
entries s count = record { count = count; row = row s; column = column s; value = value s }

-- number i of those of 8 bytes that start at `at`: signed, and doubles
abbrev pub signed_from : List ℕ → ℕ → ℕ → ℤ
signed_from s at i = signed_at s (at + i * 8)

abbrev pub double_from : List ℕ → ℕ → ℕ → Float
double_from s at i = double_at s (at + i * 8)

-- c (8 signed each) follows the entries, and ends here
abbrev pub costs_end : ℕ → ℕ → ℕ
costs_end n count = entry_at count + n * 8

-- behind c, in a version that carries them: a pin count (1), then for each pin its wagon (1) and its store (1)
abbrev pub pins_place : List ℕ → ℕ
pins_place s = costs_end (wagons s) (entry_count s)

-- pin k of those that start at `at`
abbrev pub pin_at : ℕ → ℕ → ℕ
pin_at at k = at + k * 2

abbrev pub pin_wagon : List ℕ → ℕ → ℕ → ℕ
pin_wagon s at k = big_endian s (pin_at at k) 1

abbrev pub pin_store : List ℕ → ℕ → ℕ → ℕ
pin_store s at k = big_endian s (pin_at at k + 1) 1

-- the stores are 0 and 1; a wagon that no pin holds has this in the place of its store
abbrev pub last_store : ℕ
last_store = 1

abbrev pub free_state : ℕ
free_state = 2

-- by a table of versions: the pin count, 0 where a version carries none; the wagons that no pin holds; where the settings stand
unfoldable pub pin_count_by : Format → List ℕ → ℕ
pin_count_by format s = cond (format.pinned (version s)) (big_endian s (pins_place s) 1) 0

unfoldable pub free_by : Format → List ℕ → ℕ
free_by format s = wagons s - pin_count_by format s

unfoldable pub settings_by : Format → List ℕ → ℕ
settings_by format s = cond (format.pinned (version s)) (pin_at (pins_place s + 1) (pin_count_by format s)) (pins_place s)

-- the settings from `at` on: rank (1), rule (1), its number (8), most sweeps (4), minimum (4), objective tolerance (8), stationarity
-- tolerance (8), W (1), start (1)
abbrev pub rank_at : List ℕ → ℕ → ℕ
rank_at s at = big_endian s at 1

abbrev pub rule_at : List ℕ → ℕ → ℕ
rule_at s at = big_endian s (at + 1) 1

abbrev pub rule_number_at : List ℕ → ℕ → Float
rule_number_at s at = double_at s (at + 2)

abbrev pub most_at : List ℕ → ℕ → ℕ
most_at s at = big_endian s (at + 10) 4

abbrev pub minimum_at : List ℕ → ℕ → ℕ
minimum_at s at = big_endian s (at + 14) 4

abbrev pub objective_tolerance_at : List ℕ → ℕ → Float
objective_tolerance_at s at = double_at s (at + 18)

abbrev pub stationarity_tolerance_at : List ℕ → ℕ → Float
stationarity_tolerance_at s at = double_at s (at + 26)

abbrev pub width_at : List ℕ → ℕ → ℕ
width_at s at = big_endian s (at + 34) 1

abbrev pub start_at : List ℕ → ℕ → ℕ
start_at s at = big_endian s (at + 35) 1

-- the rank that is meant for n wagons by the settings from `at` on, their start's doubles, and where the draw count (2) stands: behind these
abbrev pub rank_of : List ℕ → ℕ → ℕ → ℕ
rank_of s n at = rank_meant (n + 1) (rank_at s at)

abbrev pub start_count_of : List ℕ → ℕ → ℕ → ℕ
start_count_of s n at = start_length (start_at s at) (n + 1) (rank_of s n at) (most_at s at)

abbrev pub draws_after : List ℕ → ℕ → ℕ → ℕ
draws_after s n at = at + 36 + start_count_of s n at * 8
