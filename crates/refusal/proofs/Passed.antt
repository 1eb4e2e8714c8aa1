-- What `?` passes on, and that no refusal has the number 0. Assumes nothing.
use native.Mathlib.Omega.{arith}
use mathlib.Core.Path.{◌≡◌, ap}
use Rattle.std.specs.Prelude.{Result, Ok, Err}
use Rattle.std.specs.Result.{IsErrAnd}
use Rattle.refusal.specs.declared.Refusal.{Refusal}
use Rattle.refusal.specs.Number.{number_of}

pub passed : {A : Type 0} {r : Result A Refusal} {e : Refusal} → IsErrAnd r (λ x. x ≡ e) → r ≡ Err e
passed {r = Err x} h = ap Err h
passed {r = Ok x} h = elim h [ ]

pub some_number : (e : Refusal) → number_of e ≡ 0 → ⊥
some_number e h = grind arith
