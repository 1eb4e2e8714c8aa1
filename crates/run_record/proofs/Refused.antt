-- What a call refuses that another hands it. Assumes nothing.
--     handed_on      what `?` passes on has the number of what was refused
--     some_refusal   a refusal's number is not 0
use Prim.Native.Nat.{ℕ}
use mathlib.Core.Path.{◌≡◌, ap, ◌∙◌}
use Rattle.std.specs.Prelude.{Result}
use Rattle.std.specs.Result.{IsErrAnd}
use Rattle.refusal.specs.declared.Refusal.{Refusal}
use Rattle.refusal.specs.Number.{number_of, numbered}
use Rattle.refusal.proofs.Passed.{passed, some_number}

pub handed_on : {A : Type 0} (r : Result A Refusal) (e : Refusal) {k : ℕ} → IsErrAnd r (λ x. x ≡ e) → number_of e ≡ k → numbered r ≡ k
handed_on r e h n = ap numbered (passed h) ∙ n

pub some_refusal : (e : Refusal) {k : ℕ} → number_of e ≡ k → k ≡ 0 → ⊥
some_refusal e n z = some_number e (n ∙ z)
