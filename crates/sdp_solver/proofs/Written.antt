-- A part of a slice that was written, before what lies behind it. Assumes nothing.
use Prim.Native.Nat.{ℕ}
use mathlib.Core.List.{List, ◌++◌}
use mathlib.Core.Path.{◌≡◌, sym, ap, ◌∙◌}
use lib.ListN.{length, drop}
use Rattle.laws.specs.Lists.{over}

pub written_over : {A : Type 0} {n : ℕ} {front : List A} (new xs : List A) → front ≡ new → length front ≡ n → front ++ drop n xs ≡ over new xs
written_over {front = front} new xs e l = ap (λ k. front ++ drop k xs) (sym l) ∙ ap (λ (v : List _). over v xs) e
