use Prim.Native.Nat.{◌+◌, ◌-◌}
use mathlib.Core.Path.{◌≡◌}
use Rattle.sign_words.specs.Packed.{word, digit_at}
use Rattle.sign_words.proofs.pack.pack_word.Given as goal

abbrev pub invariant-loop-j : goal.invariant-loop-j
invariant-loop-j l = l.w ≡ word (λ i. digit_at l.signs l.k (l.j + i)) (64 - l.j)
