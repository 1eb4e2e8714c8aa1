-- What a host sees that makes a list of C's calls on one run, each call doing anything that its `ensures` allows: `Chain` of run_contract, with the
-- record in words. Definitions only.
use Rattle.std.specs.Prelude.{ℕ, zero, suc, ◌≤◌, ◌≡◌, List, [], ◌∷◌, length, take, Float}
use Rattle.std.proofs.Math.Option.{Option, some, none}
use Rattle.run_record.specs.declared.Run.{Run}
use Rattle.run_contract.specs.PlainRun.{SweepCall, FinishCall, ExchangeCall, Call, sweep, finish, exchange, Given, Seen}
use Rattle.run_contract.specs.Chain.{Lends, kept_after, Sized}
use Rattle.exports.specs.Words.{run_words, result_words, byte_in, run_in, result_words_of}
use Rattle.exports.specs.Answers.{SweepsWords, FinishesWords}
use Rattle.exports.specs.Exchange.{ExchangesWords}

-- what an accepted finish gives: the words of its result, the choice, the multipliers
pub record GivenWords : Type 0 where
  pub result : List ℕ
  pub b : List ℕ
  pub dual : List Float

-- what is seen of a call: its number, the record that the words then hold, the factor, and what an accepted finish gave
pub record SeenWords : Type 0 where
  pub number : ℕ
  pub run : Run
  pub factor : List Float
  pub given : Option GivenWords

abbrev pub words_seen : ℕ → Option GivenWords → Run → List Float → SeenWords
words_seen number given run kept = record { number = number; run = run; factor = kept; given = given }

-- of the slices as a finish leaves them, the words of a result, the n bytes of the choice and the n + 1 multipliers
abbrev pub words_given : ℕ → ℕ → List ℕ → List Float → List ℕ → Option GivenWords
words_given zero n b' dual' result' = some (record { result = take result_words result'; b = take n b'; dual = take (suc n) dual' })
words_given (suc number) n b' dual' result' = none

-- what is seen of a plain run's call, its result in words
abbrev pub given_in_words : Option Given → Option GivenWords
given_in_words (some given) = some (record { result = result_words_of given.result; b = given.b; dual = given.dual })
given_in_words none = none

abbrev pub in_words : Seen → SeenWords
in_words seen = words_seen seen.number (given_in_words seen.given) seen.run seen.factor

-- words that hold a record; those that a call leaves hold the record after it (`open_holds`, `sweep_holds`, `exchange_holds`), and what lies behind is any
pub record Holds (run : Run) (words : List ℕ) : Type 0 where
  pub enough : run_words ≤ length words
  pub held : run_in words ≡ run

-- from a record and its factor, a list of calls, and what is seen after each. A finish that is lent fewer words than a result has answers 31 and
-- changes nothing (`FinishesWords`), and is no call of the list
pub data WordChain : Run → List Float → List Call → List SeenWords → Type 0 where
  ends : {run : Run} {kept : List Float} → WordChain run kept [] []
  sweeps : {run : Run} {kept : List Float} {call : SweepCall} {calls : List Call} {seen : List SeenWords}
      (words : List ℕ) (factor : List Float) (number : ℕ) (words' : List ℕ) (factor' : List Float)
      → Holds run words
      → Lends kept call.factor_length factor
      → SweepsWords words call.table call.k factor number words' factor'
      → WordChain (run_in words') (kept_after kept call.factor_length factor') calls seen
      → WordChain run kept (sweep call ∷ calls) (words_seen number none (run_in words') (kept_after kept call.factor_length factor') ∷ seen)
  finishes : {run : Run} {kept : List Float} {call : FinishCall} {calls : List Call} {seen : List SeenWords}
      (words : List ℕ) (factor : List Float) (b : List ℕ) (dual : List Float) (workspace result : List ℕ) (number : ℕ) (b' : List ℕ) (dual' : List Float)
      (workspace' result' : List ℕ)
      → Holds run words
      → Lends kept call.factor_length factor
      → Sized call b dual workspace
      → result_words ≤ length result
      → FinishesWords words call.table call.width call.draw_count call.draws factor b dual workspace result number b' dual' workspace' result'
      → WordChain run kept calls seen
      → WordChain run kept (finish call ∷ calls) (words_seen number (words_given number call.table.n b' dual' result') run kept ∷ seen)
  exchanges : {run : Run} {kept : List Float} {call : ExchangeCall} {calls : List Call} {seen : List SeenWords}
      (words : List ℕ) (rule : ℕ) (number : ℕ) (words' : List ℕ)
      → Holds run words
      → byte_in rule ≡ call.rule
      → ExchangesWords words rule call.number number words'
      → WordChain (run_in words') kept calls seen
      → WordChain run kept (exchange call ∷ calls) (words_seen number none (run_in words') kept ∷ seen)
