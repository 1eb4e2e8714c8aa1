-- How many numbers a start takes (01, "Job and answer records"): kinds 0, 1: m·rank; 2: m, then m·rank draws if most > 0 and rank > 1.
use Rattle.std.specs.Prelude.{ℕ, ◌+◌, ◌*◌, Bool, true, false, ◌&&◌, ltb, eqb}
use Rattle.run_limits.specs.declared.StartNumbers.{StartNumbers}
use Rattle.run_limits.specs.declared.StartNumbers.TheVariants.{Rows, Signs, SignsAndDraws}

-- kind 2 is signs
abbrev pub is_signs : ℕ → Bool
is_signs kind = eqb kind 2

-- draws follow the signs
abbrev pub draws_follow : ℕ → ℕ → Bool
draws_follow most rank = ltb 0 most && ltb 1 rank

-- a start by whether it is signs, and whether draws follow them
abbrev pub start_of : Bool → Bool → StartNumbers
start_of false drawn = Rows
start_of true false = Signs
start_of true true = SignsAndDraws

-- whether a start is signs, and whether draws follow them
abbrev pub signs_in : StartNumbers → Bool
signs_in Rows = false
signs_in Signs = true
signs_in SignsAndDraws = true

abbrev pub draws_in : StartNumbers → Bool
draws_in Rows = false
draws_in Signs = false
draws_in SignsAndDraws = true

-- by whether the start is signs, and whether draws follow them
abbrev pub start_count : Bool → Bool → ℕ → ℕ → ℕ
start_count false drawn rank m = m * rank
start_count true false rank m = m
start_count true true rank m = m + m * rank

unfoldable pub start_length : ℕ → ℕ → ℕ → ℕ → ℕ
start_length kind m rank most = start_count (is_signs kind) (draws_follow most rank) rank m
