-- A finish on words, from what it promises of the record that the words hold. Assumes nothing.
use Rattle.std.specs.Prelude.{Result, Err, MatchResult}
use Rattle.std.specs.Result.{IsOkAnd}
use Rattle.refusal.specs.declared.Refusal.{Refusal}
use Rattle.refusal.specs.Number.{numbered, in_numbers}
use Rattle.exports.proofs.Answering.{handed}
use Prim.Native.Nat.{ℕ, ◌≤◌}
use mathlib.Core.Path.{◌≡◌}
use mathlib.Core.List.{List}
use native.Mathlib.Omega.{arith}
use lib.Ieee.{Float}
use lib.ListN.{length}
use Rattle.tables.specs.CostTable.{CostTable}
use Rattle.run_contract.specs.declared.FinishResult.{FinishResult}
use Rattle.run_contract.specs.Calls.{Finishes, finish_result}
use Rattle.exports.specs.Words.{run_words, result_words, run_in, result_words_of}
use Rattle.exports.specs.Answers.{written, FinishesWords}

module _ {words : List ℕ} {t : CostTable} {width draw_count : ℕ} {draws factor : List Float} {b : List ℕ} {dual : List Float} {workspace result : List ℕ} where
  pub finish_made : {b' : List ℕ} {dual' : List Float} {workspace' result' : List ℕ} {number : ℕ} (answer : Result FinishResult Refusal) (made : Result (List ℕ) Refusal)
      → run_words ≤ length words → result_words ≤ length result → Finishes (run_in words) t width draw_count draws factor b dual workspace (in_numbers answer) b' dual' workspace'
      → MatchResult answer (λ x. IsOkAnd made (λ w. w ≡ result_words_of x)) (λ e. made ≡ Err e) → (number ≡ numbered made) × (result' ≡ written made result)
      → FinishesWords words t width draw_count draws factor b dual workspace result number b' dual' workspace' result'
  finish_made answer made l m e cases out =
      let (x, is, w) = handed result_words_of (finish_result (run_in words) t width draw_count draws factor) answer made result cases out in
      record { short_words = λ n. absurd (omega (arith, l, n)); short_result = λ n. absurd (omega (arith, m, n)); finishes = λ _ _. (x, rw is e, w) }
