-- What `?` hands on: a refusal, by its number.
-- Assumes nothing.
use Prim.Native.Nat.{ℕ}
use mathlib.Core.Path.{◌≡◌, sym, ap, ◌∙◌}
use Rattle.std.specs.Prelude.{Result, Err}
use Rattle.refusal.specs.declared.Refusal.{Refusal}
use Rattle.refusal.specs.Number.{number_of, numbered}
use Rattle.refusal.proofs.Passed.{some_number}

module _ {A : Type 0} {r : Result A Refusal} {e : Refusal} (h : r ≡ Err e) where
  pub handed : {a : ℕ} → number_of e ≡ a → numbered r ≡ a
  handed n = ap numbered h ∙ n

  pub refused : numbered r ≡ 0 → ⊥
  refused z = some_number e (sym (ap numbered h) ∙ z)
