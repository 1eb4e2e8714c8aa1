-- The ranged finish on words, from what it promises of the record that the words hold. Assumes nothing.
use Rattle.std.specs.Prelude.{Result, Err, MatchResult}
use Rattle.std.specs.Result.{IsOkAnd}
use Rattle.refusal.specs.declared.Refusal.{Refusal}
use Rattle.refusal.specs.Number.{numbered, in_numbers}
use Rattle.exports.proofs.Answering.{handed}
use Prim.Native.Nat.{ℕ, ◌≤◌}
use mathlib.Core.Path.{◌≡◌}
use mathlib.Core.List.{List}
use native.Mathlib.Omega.{arith}
use lib.Ieee.{Float}
use lib.IntN.{pos}
use lib.ListN.{length}
use Rattle.run_contract.specs.Calls.{finish_result}
use Rattle.ranged_finish.specs.Ranged.{RangedTable, high_of}
use Rattle.ranged_finish.specs.Call.{RangedFinishes}
use Rattle.ranged_finish.specs.declared.RangedResult.{RangedResult}
use Rattle.exports.specs.Words.{run_words, run_in}
use Rattle.exports.specs.RangedWords.{ranged_words, ranged_words_of, RangedFinishesWords}
use Rattle.exports.specs.Answers.{written}

module _ {words : List ℕ} {t : RangedTable} {width draw_count : ℕ} {draws factor : List Float} {b : List ℕ} {dual : List Float} {workspace result : List ℕ} where
  pub ranged_made : {b' : List ℕ} {dual' : List Float} {workspace' result' : List ℕ} {number : ℕ} (answer : Result RangedResult Refusal) (made : Result (List ℕ) Refusal)
      → run_words ≤ length words → ranged_words ≤ length result → RangedFinishes (run_in words) t width draw_count draws factor b dual workspace (in_numbers answer) b' dual' workspace'
      → MatchResult answer (λ x. IsOkAnd made (λ w. w ≡ ranged_words_of x)) (λ e. made ≡ Err e) → (number ≡ numbered made) × (result' ≡ written made result)
      → RangedFinishesWords words t width draw_count draws factor b dual workspace result number b' dual' workspace' result'
  ranged_made answer made l m e cases out =
      let any : RangedResult = record { result = finish_result (run_in words) (high_of t) width draw_count draws factor; low = pos 0; high = pos 0; low_floor = pos 0 } in
      let (x, is, w) = handed ranged_words_of any answer made result cases out in
      record { short_words = λ n. absurd (omega (arith, l, n)); short_result = λ n. absurd (omega (arith, m, n)); finishes = λ _ _. (x, rw is e, w) }
