-- The exchange of a rule on words, from what it promises of the record that the words hold. Assumes nothing.
use Prim.Native.Nat.{ℕ, ◌≤◌, ◌<◌}
use mathlib.Core.Path.{◌≡◌}
use mathlib.Core.List.{List}
use lib.Ieee.{Float}
use lib.ListN.{length}
use Rattle.run_contract.specs.Calls.{Exchanges}
use Rattle.exports.specs.Words.{run_words, byte_in, run_in}
use Rattle.exports.specs.Exchange.{ExchangesWords}

-- words enough for a record are all that the call asks for its promise, and fewer are 31
module _ {words : List ℕ} {rule : ℕ} {number : Float} {answer : ℕ} {words' : List ℕ} (says : ExchangesWords words rule number answer words') where
  pub exchange_enough : run_words ≤ length words → Exchanges (run_in words) (byte_in rule) number answer (run_in words')
  exchange_enough w = (says.exchanges w).0

  pub exchange_short_words : length words < run_words → answer ≡ 31
  exchange_short_words w = (says.short_words w).0
