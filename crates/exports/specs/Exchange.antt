-- What the exported exchange of a rule promises, by `Exchanges` of run_contract, on words. Definitions only.
use Rattle.std.specs.Prelude.{ℕ, ◌≤◌, ◌<◌, ◌≡◌, List, Float, length}
use Rattle.run_contract.specs.Calls.{Exchanges}
use Rattle.exports.specs.Words.{run_words, byte_in, run_in, words_of}
use Rattle.exports.specs.Answers.{words_after}

-- fewer words than a record has are too short: 31, and nothing is written. Else what `exchange_rule` promises, of the record that the words hold
-- and then hold; a rule above 255 is refused as 255 is
pub record ExchangesWords (words : List ℕ) (rule : ℕ) (number : Float) (answer : ℕ) (words' : List ℕ) : Type 0 where
  pub short_words : length words < run_words → (answer ≡ 31) × (words' ≡ words)
  pub exchanges : run_words ≤ length words
      → Exchanges (run_in words) (byte_in rule) number answer (run_in words') × (words' ≡ words_after answer (words_of (run_in words')) words)
