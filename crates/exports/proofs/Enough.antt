-- Words enough for a record, settings and a result are all that the calls of a run ask for their promise, and fewer are 31: the header lends just so
-- many. Assumes nothing.
use Prim.Native.Nat.{ℕ, ◌≤◌, ◌<◌}
use mathlib.Core.Path.{◌≡◌}
use mathlib.Core.List.{List}
use lib.Ieee.{Float}
use lib.ListN.{length}
use Rattle.tables.specs.CostTable.{CostTable}
use Rattle.run_contract.specs.declared.FinishResult.{FinishResult}
use Rattle.run_contract.specs.Calls.{Opens, Sweeps, Finishes}
use Rattle.exports.specs.Words.{run_words, setting_words, result_words, run_in, settings_in}
use Rattle.exports.specs.Answers.{by_number, OpensWords, SweepsWords, FinishesWords}

module _ {t : CostTable} {settings : List ℕ} {numbers factor : List Float} {words : List ℕ} {number : ℕ} {factor' : List Float} {words' : List ℕ}
    (says : OpensWords t settings numbers factor words number factor' words') where
  pub open_enough : setting_words ≤ length settings → run_words ≤ length words → Opens (settings_in t settings numbers) factor (by_number number (run_in words')) factor'
  open_enough s w = (says.opens s w).0

  pub open_short_settings : length settings < setting_words → number ≡ 31
  open_short_settings s = (says.short_settings s).0

  pub open_short_words : length words < run_words → number ≡ 31
  open_short_words w = (says.short_words w).0

module _ {words : List ℕ} {t : CostTable} {k : ℕ} {factor : List Float} {number : ℕ} {words' : List ℕ} {factor' : List Float}
    (says : SweepsWords words t k factor number words' factor') where
  pub sweep_enough : run_words ≤ length words → Sweeps (run_in words) t k factor number (run_in words') factor'
  sweep_enough w = (says.sweeps w).0

  pub sweep_short_words : length words < run_words → number ≡ 31
  sweep_short_words w = (says.short_words w).0

module _ {words : List ℕ} {t : CostTable} {width draw_count : ℕ} {draws factor : List Float} {b : List ℕ} {dual : List Float} {workspace result : List ℕ} {number : ℕ}
    {b' : List ℕ} {dual' : List Float} {workspace' result' : List ℕ}
    (says : FinishesWords words t width draw_count draws factor b dual workspace result number b' dual' workspace' result') where
  pub finish_enough : run_words ≤ length words → result_words ≤ length result
      → (x : FinishResult) × Finishes (run_in words) t width draw_count draws factor b dual workspace (by_number number x) b' dual' workspace'
  finish_enough w r = ((says.finishes w r).0, (says.finishes w r).1)

  pub finish_short_words : length words < run_words → number ≡ 31
  finish_short_words w = (says.short_words w).0

  pub finish_short_result : length result < result_words → number ≡ 31
  finish_short_result r = (says.short_result r).0
