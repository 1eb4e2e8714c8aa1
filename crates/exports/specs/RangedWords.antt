-- The ranged finish as C makes it: the words of its result are those of a finish, then the choice's low and high figures and the low table's floor.
use Rattle.std.specs.Prelude.{ℕ, ◌+◌, ◌≤◌, ◌<◌, ◌≡◌, List, [], ◌∷◌, ◌++◌, Float, length}
use Rattle.ieee.specs.Floats.{bits_of_signed}
use Rattle.ranged_finish.specs.Ranged.{RangedTable}
use Rattle.ranged_finish.specs.Call.{RangedFinishes}
use Rattle.ranged_finish.specs.declared.RangedResult.{RangedResult}
use Rattle.exports.specs.Words.{run_words, result_words, run_in, result_words_of}
use Rattle.exports.specs.Answers.{by_number, words_after}

abbrev pub ranged_words : ℕ
ranged_words = result_words + 3

unfoldable pub ranged_words_of : RangedResult → List ℕ
ranged_words_of x = result_words_of x.result ++ (bits_of_signed x.low ∷ bits_of_signed x.high ∷ bits_of_signed x.low_floor ∷ [])

-- fewer words than a record or a ranged result has are too short: 31, and nothing is written. Else what `finish_ranged` promises of the record that the
-- words hold, its result in words
pub record RangedFinishesWords (words : List ℕ) (t : RangedTable) (width draw_count : ℕ) (draws factor : List Float) (b : List ℕ) (dual : List Float)
    (workspace result : List ℕ) (number : ℕ) (b' : List ℕ) (dual' : List Float) (workspace' result' : List ℕ) : Type 0 where
  pub short_words : length words < run_words → (number ≡ 31) × (b' ≡ b) × (dual' ≡ dual) × (workspace' ≡ workspace) × (result' ≡ result)
  pub short_result : length result < ranged_words → (number ≡ 31) × (b' ≡ b) × (dual' ≡ dual) × (workspace' ≡ workspace) × (result' ≡ result)
  pub finishes : run_words ≤ length words → ranged_words ≤ length result
      → (x : RangedResult) × RangedFinishes (run_in words) t width draw_count draws factor b dual workspace (by_number number x) b' dual' workspace'
      × (result' ≡ words_after number (ranged_words_of x) result)
