use mathlib.Core.Path.{◌≡◌}
use Rattle.laws.specs.Lists.{over, tabulate}
use Rattle.sign_words.specs.Packed.{word, digit_at}
use Rattle.sign_words.proofs.pack.pack.Given as goal

abbrev pub invariant-loop-k : goal.invariant-loop-k
invariant-loop-k l = l.words ≡ over (tabulate (λ k'. word (digit_at l.signs k') 64) l.k) l.initial.words
