-- What a refused call answers, made of its number: a refusal's number isn't 0. Assumes nothing.
use Prim.Native.Nat.{ℕ, zero, suc}
use mathlib.Core.Path.{◌≡◌, refl, sym, ap, ◌∙◌}
use mathlib.Core.List.{List}
use Rattle.std.specs.Prelude.{Result, Ok, Err, MatchResult}
use Rattle.std.specs.Result.{IsOkAnd}
use Rattle.laws.specs.Lists.{over}
use Rattle.run_record.specs.declared.Run.{Run}
use Rattle.refusal.specs.declared.Refusal.{Refusal}
use Rattle.refusal.specs.Number.{number_of, numbered, in_numbers}
use Rattle.refusal.proofs.Passed.{some_number}
use Rattle.exports.specs.Words.{run_in, words_of}
use Rattle.exports.specs.Answers.{by_number, words_after, written, HandsRun}
use Rattle.exports.proofs.Back.{front_held}

by_some : {A : Type 0} (k : ℕ) (value : A) → (k ≡ 0 → ⊥) → by_number k value ≡ Err k
by_some zero value n = absurd (n refl)
by_some (suc k) value n = refl

pub by_refusal : {A : Type 0} (refusal : Refusal) (value : A) → by_number (number_of refusal) value ≡ Err (number_of refusal)
by_refusal refusal value = by_some (number_of refusal) value (some_number refusal)

left : (k : ℕ) (new words : List ℕ) → (k ≡ 0 → ⊥) → words ≡ words_after k new words
left zero new words n = absurd (n refl)
left (suc k) new words n = refl

-- the words of a value, made by `map` of what a call answered
pub handed : {A : Type 0} (f : A → List ℕ) (other : A) (answer : Result A Refusal) (made : Result (List ℕ) Refusal) (words : List ℕ) {number : ℕ} {words' : List ℕ}
    → MatchResult answer (λ x. IsOkAnd made (λ w. w ≡ f x)) (λ e. made ≡ Err e) → (number ≡ numbered made) × (words' ≡ written made words)
    → (x : A) × (by_number number x ≡ in_numbers answer) × (words' ≡ words_after number (f x) words)
handed f other (Ok x) (Ok w) words m (n, e) = (x, rw n refl, rw n (e ∙ ap (λ (v : List ℕ). over v words) m))
handed f other (Ok x) (Err _) words m _ = elim m [ ]
handed f other (Err refusal) made words m (n, e) =
    (other, rw (n, m) (by_refusal refusal other), rw (n, m) (rw m at e ∙ left (number_of refusal) (f other) words (some_number refusal)))

-- the same of a record, which is read back
pub run_handed : (answer : Result Run Refusal) (made : Result (List ℕ) Refusal) (words : List ℕ) {number : ℕ} {words' : List ℕ}
    → MatchResult answer (λ x. IsOkAnd made (λ w. (w ≡ words_of x) × (run_in w ≡ x))) (λ e. made ≡ Err e) → (number ≡ numbered made) × (words' ≡ written made words)
    → HandsRun answer words number words'
run_handed (Ok x) (Ok w) words {words' = words'} (m, back) (n, e) =
    let is : words' ≡ over (words_of x) words = e ∙ ap (λ (v : List ℕ). over v words) m in
    let held : run_in words' ≡ x = ap run_in is ∙ front_held x words ∙ ap run_in (sym m) ∙ back in
    record { is_number = n; held = held; written_over = rw (n, held) is }
run_handed (Ok x) (Err _) words m _ = elim m [ ]
run_handed (Err refusal) made words {words' = words'} m (n, e) =
    let is : words' ≡ words = rw m at e in
    record { is_number = rw m at n; held = ap run_in is; written_over = rw (n, m) (is ∙ left (number_of refusal) (words_of (run_in words')) words (some_number refusal)) }
