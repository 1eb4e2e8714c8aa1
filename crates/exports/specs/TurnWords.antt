-- The turn call as C makes it: the records run after run in words, and n and the number of entries of each run's table in words too.
use Rattle.std.specs.Prelude.{ℕ, ◌+◌, ◌*◌, ◌≡◌, List, [], ◌∷◌, ltb, ℤ, Float, length, drop, replicate}
use Rattle.laws.specs.Lists.{elem, fill}
use Rattle.laws.specs.Refusal.{first, ◌if◌}
use Rattle.limits.specs.Limits.{most_runs}
use Rattle.run_record.specs.declared.Run.{Run}
use Rattle.several_runs.specs.declared.HallSize.{HallSize}
use Rattle.several_runs.specs.Turn.{blank, no_hall, tables_of, bad_turn, bad_count, joined, Turns}
use Rattle.exports.specs.Words.{run_words, run_in, words_of}
use Rattle.exports.specs.Answers.{words_after}

abbrev pub hall_words : ℕ
hall_words = 2

-- run i's record and the sizes of its table, behind those of the runs before it
abbrev pub record_at : List ℕ → ℕ → Run
record_at words i = run_in (drop (run_words * i) words)

abbrev pub sizes_at : List ℕ → ℕ → HallSize
sizes_at sizes i = record { n = elem sizes (hall_words * i); count = elem sizes (hall_words * i + 1) }

-- those of so many runs; the places behind them stand empty
unfoldable pub runs_in : ℕ → List ℕ → List Run
runs_in count words = fill (record_at words) count (replicate most_runs blank)

unfoldable pub halls_in : ℕ → List ℕ → List HallSize
halls_in count sizes = fill (sizes_at sizes) count (replicate most_runs no_hall)

-- the number that is found before a record is read: 25, 26, then 31 where there are fewer words than so many runs have, or fewer sizes
unfoldable pub early_number : ℕ → ℕ → ℕ → ℕ → ℕ
early_number sweeps count words sizes =
    first (25 if bad_turn sweeps ∷ 26 if bad_count count ∷ 31 if ltb words (run_words * count) ∷ 31 if ltb sizes (hall_words * count) ∷ [])

-- such a number is the answer, and nothing is written. Else what `turn` promises, of the records that the words hold before and after it
pub record TurnsWords (sweeps count : ℕ) (words sizes rows cols : List ℕ) (values c : List ℤ) (factors : List Float) (number : ℕ) (words' : List ℕ) (factors' : List Float) : Type 0 where
  pub early : (early_number sweeps count (length words) (length sizes) ≡ 0 → ⊥)
      → (number ≡ early_number sweeps count (length words) (length sizes)) × (words' ≡ words) × (factors' ≡ factors)
  pub turns : early_number sweeps count (length words) (length sizes) ≡ 0
      → Turns sweeps count (runs_in count words) (tables_of (halls_in count sizes) rows cols values c) factors number (runs_in count words') factors'
      × (words' ≡ words_after number (joined (λ i. words_of (record_at words' i)) count) words)
