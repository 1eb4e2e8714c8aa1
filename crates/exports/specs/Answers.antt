-- What the exported calls promise: those of a run by the predicates of run_contract, on words; those that answer a value by what the call answers,
-- made of the number and of what is lent for the value.
use Rattle.std.specs.Prelude.{ℕ, zero, suc, ◌≤◌, ◌<◌, ◌≡◌, List, Float, length, Result, Ok, Err}
use Rattle.std.specs.Result.{result_unwrap_or}
use Rattle.laws.specs.Lists.{over}
use Rattle.refusal.specs.declared.Refusal.{Refusal}
use Rattle.refusal.specs.Number.{numbered}
use Rattle.run_record.specs.declared.Run.{Run}
use Rattle.tables.specs.CostTable.{CostTable}
use Rattle.run_contract.specs.declared.FinishResult.{FinishResult}
use Rattle.run_contract.specs.Calls.{Opens, Sweeps, Finishes}
use Rattle.exports.specs.Words.{run_words, setting_words, result_words, run_in, words_of, settings_in, result_words_of}

-- ---- what a call answered, of its number and of what came with it

abbrev pub by_number : {A : Type 0} → ℕ → A → Result A ℕ
by_number zero value = Ok value
by_number (suc k) value = Err (suc k)

-- a refusal leaves what is lent for a value
abbrev pub Stays : {A : Type 0} → ℕ → A → A → Type 0
Stays number value value' = (number ≡ 0 → ⊥) → value' ≡ value

-- ---- the calls of a run

-- lent words after a call: an accepted one writes over their front, a refused one leaves them
abbrev pub words_after : ℕ → List ℕ → List ℕ → List ℕ
words_after zero new words = over new words
words_after (suc k) new words = words

-- the words of a value that a call answered, over the front of those lent for them
abbrev pub written : Result (List ℕ) Refusal → List ℕ → List ℕ
written (Ok new) words = over new words
written (Err refusal) words = words

-- the record that a call answered, in words
pub record HandsRun (answer : Result Run Refusal) (words : List ℕ) (number : ℕ) (words' : List ℕ) : Type 0 where
  pub is_number : number ≡ numbered answer
  pub held : run_in words' ≡ result_unwrap_or answer (run_in words)
  pub written_over : words' ≡ words_after number (words_of (run_in words')) words

-- fewer words than a record or the settings have are too short: 31, and nothing is written. Else what `open` promises, of the record that the words
-- then hold
pub record OpensWords (t : CostTable) (settings : List ℕ) (numbers factor : List Float) (words : List ℕ) (number : ℕ) (factor' : List Float) (words' : List ℕ) : Type 0 where
  pub short_settings : length settings < setting_words → (number ≡ 31) × (factor' ≡ factor) × (words' ≡ words)
  pub short_words : length words < run_words → (number ≡ 31) × (factor' ≡ factor) × (words' ≡ words)
  pub opens : setting_words ≤ length settings → run_words ≤ length words
      → Opens (settings_in t settings numbers) factor (by_number number (run_in words')) factor' × (words' ≡ words_after number (words_of (run_in words')) words)

pub record SweepsWords (words : List ℕ) (t : CostTable) (k : ℕ) (factor : List Float) (number : ℕ) (words' : List ℕ) (factor' : List Float) : Type 0 where
  pub short_words : length words < run_words → (number ≡ 31) × (words' ≡ words) × (factor' ≡ factor)
  pub sweeps : run_words ≤ length words
      → Sweeps (run_in words) t k factor number (run_in words') factor' × (words' ≡ words_after number (words_of (run_in words')) words)

-- a finish reads the record and writes the words of its result
pub record FinishesWords (words : List ℕ) (t : CostTable) (width draw_count : ℕ) (draws factor : List Float) (b : List ℕ) (dual : List Float)
    (workspace result : List ℕ) (number : ℕ) (b' : List ℕ) (dual' : List Float) (workspace' result' : List ℕ) : Type 0 where
  pub short_words : length words < run_words → (number ≡ 31) × (b' ≡ b) × (dual' ≡ dual) × (workspace' ≡ workspace) × (result' ≡ result)
  pub short_result : length result < result_words → (number ≡ 31) × (b' ≡ b) × (dual' ≡ dual) × (workspace' ≡ workspace) × (result' ≡ result)
  pub finishes : run_words ≤ length words → result_words ≤ length result
      → (x : FinishResult) × Finishes (run_in words) t width draw_count draws factor b dual workspace (by_number number x) b' dual' workspace'
      × (result' ≡ words_after number (result_words_of x) result)
