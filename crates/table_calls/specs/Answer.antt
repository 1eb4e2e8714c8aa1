-- The answers of the calls: 01's number of each, 0 where the call is accepted, and the value.
use Rattle.std.specs.Prelude.{ℕ, zero, suc, ℤ, Float, Result, Ok, Err}

-- what a call gives whose number is k: what it gives when accepted where k is 0, else what it gives when refused with k
unfoldable pub answered : {A : Type 0} → ℕ → (ℕ → A) → A → A
answered zero refused accepted = accepted
answered (suc k) refused accepted = refused (suc k)

-- a value in eighths; a double; how many entries were written; each or the number alone
abbrev pub eighths_answer : ℕ → ℤ → Result ℤ ℕ
eighths_answer number value = answered number Err (Ok value)

abbrev pub bound_answer : ℕ → Float → Result Float ℕ
bound_answer number value = answered number Err (Ok value)

abbrev pub entries_answer : ℕ → ℕ → Result ℕ ℕ
entries_answer number count = answered number Err (Ok count)

-- a lent slice after a call: as it was where the call is refused
abbrev pub kept_if_refused : {A : Type 0} → ℕ → A → A → A
kept_if_refused number before after = answered number (λ _. before) after
