-- Demand 3's last sentence for C's calls: from an accepted open, every list of exported sweeps, finishes and exchanges, refused ones included, is seen as 01's
-- plain run has it, the records read from the words. By `plain_run` of run_contract. Assumes nothing.
use Prim.Native.Nat.{ℕ, zero, suc, ◌≤◌, ◌<◌}
use mathlib.Core.Path.{◌≡◌, refl, sym, ap, subst, ◌∙◌}
use mathlib.Core.List.{List, [], ◌∷◌, map}
use mathlib.Core.Option.{Option, some, none}
use native.Mathlib.Omega.{arith}
use lib.Ieee.{Float}
use lib.ListN.{length, take, drop, length-append}
use lib.Seq.{take_at}
use Rattle.run_record.specs.declared.Run.{Run}
use Rattle.tables.specs.CostTable.{CostTable}
use Rattle.run_contract.specs.declared.FinishResult.{FinishResult}
use Rattle.run_contract.specs.Calls.{Sweeps, used, Finishes, answer_number, Exchanges}
use Rattle.run_contract.specs.PlainRun.{Call, plain_open, Seen, plain_trace}
use Rattle.run_contract.specs.Chain as chain
use Rattle.run_contract.specs.Chain.{kept_after, seen_of, given_of, Chain}
use Rattle.run_contract.proofs.OnLists.{plain_run}
use Rattle.exports.specs.Words.{run_words, setting_words, result_words, run_in, words_of, settings_in, result_words_of}
use Rattle.exports.specs.Answers.{by_number, words_after, OpensWords, SweepsWords}
use Rattle.exports.specs.Exchange.{ExchangesWords}
use Rattle.exports.specs.WordChain.{GivenWords, SeenWords, words_seen, words_given, given_in_words, in_words, Holds, WordChain, ends, sweeps, finishes, exchanges}

-- ---- words that a call leaves hold the record after it

pub length_words : (run : Run) → length (words_of run) ≡ run_words
unfolding words_of
length_words run = refl

after_long : (number : ℕ) (run : Run) (words : List ℕ) {words' : List ℕ} → run_words ≤ length words → words' ≡ words_after number (words_of run) words → run_words ≤ length words'
after_long zero run words l e =
    rw (e, length-append (words_of run) (drop (length (words_of run)) words)) (omega (arith, length_words run))
after_long (suc number) run words l e = rw e l

pub sweep_holds : {words words' : List ℕ} {t : CostTable} {k number : ℕ} {factor factor' : List Float} → run_words ≤ length words
    → SweepsWords words t k factor number words' factor' → Holds (run_in words') words'
sweep_holds {words = words} {words' = words'} {number = number} l says = record { enough = after_long number (run_in words') words l (says.sweeps l).1; held = refl }

pub exchange_holds : {words words' : List ℕ} {rule : ℕ} {value : Float} {number : ℕ} → run_words ≤ length words → ExchangesWords words rule value number words' → Holds (run_in words') words'
exchange_holds {words = words} {words' = words'} {number = number} l says = record { enough = after_long number (run_in words') words l (says.exchanges l).1; held = refl }

-- ---- an accepted open

module _ {t : CostTable} {settings : List ℕ} {numbers factor : List Float} {words : List ℕ} {factor' : List Float} {words' : List ℕ}
    (says : OpensWords t settings numbers factor words 0 factor' words') where
  settings_there : setting_words ≤ length settings
  settings_there = let n : length settings < setting_words → ⊥ = λ n. cc (says.short_settings n).0 in omega arith

  words_there : run_words ≤ length words
  words_there = let n : length words < run_words → ⊥ = λ n. cc (says.short_words n).0 in omega arith

  pub open_holds : Holds (run_in words') words'
  open_holds = record { enough = after_long 0 (run_in words') words words_there (says.opens settings_there words_there).1; held = refl }

-- ---- a finish

length_result : (x : FinishResult) → length (result_words_of x) ≡ result_words
unfolding result_words_of
length_result x = refl

-- what its slices show is what its answer gives
given_is : (number : ℕ) (x : FinishResult) (n : ℕ) (b' : List ℕ) (dual' : List Float) (result : List ℕ) {result' : List ℕ} → result' ≡ words_after number (result_words_of x) result
    → words_given number n b' dual' result' ≡ given_in_words (given_of (by_number number x) n b' dual')
given_is zero x n b' dual' result {result'} e =
    ap (λ (w : List ℕ). some (record { result = w; b = take n b'; dual = take (suc n) dual' }))
    (ap (take result_words) e ∙ take_at (result_words_of x) (drop (length (result_words_of x)) result) result_words (length_result x))
given_is (suc number) x n b' dual' result e = refl

number_is : (number : ℕ) (x : FinishResult) → answer_number (by_number number x) ≡ number
number_is zero x = refl
number_is (suc number) x = refl

-- ---- the list

-- a chain on words is a chain on the records that they hold
pub join : {run : Run} {kept : List Float} {calls : List Call} {seen : List SeenWords} → WordChain run kept calls seen
    → (plain : List Seen) × Chain run kept calls plain × (seen ≡ map in_words plain)
join ends = ([], chain.ends, refl)
join (sweeps {kept = kept} {call = call} words factor number words' factor' holds lends says rest) =
    let says' = subst (λ (h : Run). Sweeps h call.table call.k factor number (run_in words') factor') holds.held (says.sweeps holds.enough).0 in
    let more = join rest in
    let left = kept_after kept call.factor_length factor' in (
      seen_of number none (run_in words') left ∷ more.0,
      chain.sweeps factor number (run_in words') factor' lends says' more.1,
      ap (λ (s : List SeenWords). words_seen number none (run_in words') left ∷ s) more.2,
    )
join (finishes {run = run} {kept = kept} {call = call} {seen = seen} words factor b dual workspace result number b' dual' workspace' result' holds lends sized long says rest) =
    let gave = says.finishes holds.enough long in
    let x = gave.0 in
    let answer = by_number number x in
    let says' = subst (λ (h : Run). Finishes h call.table call.width call.draw_count call.draws factor b dual workspace answer b' dual' workspace') holds.held gave.1 in
    let more = join rest in (
      seen_of (answer_number answer) (given_of answer call.table.n b' dual') run kept ∷ more.0,
      chain.finishes factor b dual workspace answer b' dual' workspace' lends sized says' more.1,
      ap (λ (m : ℕ). words_seen m (words_given number call.table.n b' dual' result') run kept ∷ seen) (sym (number_is number x))
          ∙ ap (λ (g : Option GivenWords). words_seen (answer_number answer) g run kept ∷ seen) (given_is number x call.table.n b' dual' result gave.2)
          ∙ ap (λ (s : List SeenWords). words_seen (answer_number answer) (given_in_words (given_of answer call.table.n b' dual')) run kept ∷ s) more.2,
    )
join (exchanges {kept = kept} {call = call} words rule number words' holds byte says rest) =
    let asked = subst (λ (k : ℕ). Exchanges (run_in words) k call.number number (run_in words')) byte (says.exchanges holds.enough).0 in
    let says' = subst (λ (h : Run). Exchanges h call.rule call.number number (run_in words')) holds.held asked in
    let more = join rest in (
      seen_of number none (run_in words') kept ∷ more.0,
      chain.exchanges number (run_in words') says' more.1,
      ap (λ (s : List SeenWords). words_seen number none (run_in words') kept ∷ s) more.2,
    )

-- from an accepted open, whatever settings and tables
pub plain_run_words : (t : CostTable) (settings : List ℕ) (numbers factor : List Float) (words : List ℕ) (factor' : List Float) (words' : List ℕ) (calls : List Call) (seen : List SeenWords)
    → OpensWords t settings numbers factor words 0 factor' words'
    → WordChain (run_in words') (take (used (run_in words')) factor') calls seen
    → seen ≡ map in_words (plain_trace (plain_open (settings_in t settings numbers)) calls)
plain_run_words t settings numbers factor words factor' words' calls seen says made =
    let joined = join made in
    let opens = (says.opens (settings_there says) (words_there says)).0 in
    joined.2 ∙ ap (map in_words) (plain_run (settings_in t settings numbers) factor factor' (run_in words') calls joined.0 opens joined.1)
