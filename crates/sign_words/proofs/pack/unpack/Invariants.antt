use mathlib.Core.Path.{◌≡◌}
use Rattle.laws.specs.Lists.{over, tabulate}
use Rattle.sign_words.specs.Packed.{sign_in}
use Rattle.sign_words.proofs.pack.unpack.Given as goal

abbrev pub invariant-loop-i : goal.invariant-loop-i
invariant-loop-i l = l.signs ≡ over (tabulate (sign_in l.words) l.i) l.initial.signs
