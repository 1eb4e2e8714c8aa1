-- 01's limits, each named once; src/lib.rt has the same names. What follows from another limit is computed from it.
use Rattle.std.specs.Prelude.{ℕ, ◌+◌, ◌*◌, ◌^◌, ◌/◌}

-- ---- (H, c)

abbrev pub most_wagons : ℕ
most_wagons = 255

abbrev pub most_entries : ℕ
most_entries = 4096

abbrev pub most_magnitude : ℕ
most_magnitude = 2 ^ 40

-- ---- a sign table: a sign more than wagons; an entry of H each, and for each wagon its linear cost twice and its diagonal, and the anchor's corner

abbrev pub most_signs : ℕ
most_signs = most_wagons + 1

abbrev pub most_sign_entries : ℕ
most_sign_entries = most_entries + 3 * most_wagons + 1

abbrev pub most_sign_magnitude : ℕ
most_sign_magnitude = 4 * most_magnitude

-- ---- a run, its search and its finish

abbrev pub most_rank : ℕ
most_rank = 32

abbrev pub most_width : ℕ
most_width = 128

abbrev pub most_draws : ℕ
most_draws = 1000

-- a rule's last number, and a start's
abbrev pub last_rule : ℕ
last_rule = 4

abbrev pub last_start : ℕ
last_start = 2

-- as many numbers as any factor has
abbrev pub most_factor : ℕ
most_factor = most_signs * most_rank

-- as many numbers as any start takes: a sign and a row for each sign
abbrev pub most_start : ℕ
most_start = most_signs + most_factor

-- a house of at most so many wagons is small: what jobs of versions 1 and 2 have, and whose choices take no more words than before the larger ones
abbrev pub small_wagons : ℕ
small_wagons = 127

abbrev pub small_signs : ℕ
small_signs = small_wagons + 1

-- the words of a choice, 64 signs in each; of a small house's
abbrev pub most_words : ℕ
most_words = (most_signs + 63) / 64

abbrev pub small_words : ℕ
small_words = (small_signs + 63) / 64

-- the workspace of a search, and so of a finish, in words: a level, as many choices as there are signs or places
abbrev pub search_workspace : ℕ
search_workspace = most_signs * most_words

-- the workspace of the record call, in bytes: 01's, whatever a search takes
abbrev pub record_workspace : ℕ
record_workspace = 16384

-- ---- a job record, and an answer's slice

abbrev pub most_bytes : ℕ
most_bytes = 65536

-- as many doubles as any job has in its draws
abbrev pub most_drawn : ℕ
most_drawn = most_bytes / 8

-- an answer slice of fewer bytes is too short: those before b, and a byte a wagon
abbrev pub least_answer : ℕ
least_answer = 60 + most_wagons

-- ---- the reduced pair: its original size; its table has at most as many entries as a sign table

abbrev pub most_size : ℕ
most_size = 1024

-- ---- 02's later requests: the blocks of one call, the wagons of a house that is walked in full, the runs that share a turn and the sweeps of one

abbrev pub most_blocks : ℕ
most_blocks = 16

abbrev pub most_walked : ℕ
most_walked = 16

abbrev pub most_runs : ℕ
most_runs = 8

abbrev pub least_turn : ℕ
least_turn = 8

abbrev pub most_turn : ℕ
most_turn = 10000
