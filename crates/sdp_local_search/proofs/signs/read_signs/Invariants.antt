use mathlib.Core.Path.{◌≡◌}
use Rattle.laws.specs.Lists.{elem, over, tabulate}
use Rattle.sign_words.specs.Signs.{sign_digit}
use Rattle.sdp_local_search.proofs.signs.read_signs.Given as goal

abbrev pub invariant-loop-i : goal.invariant-loop-i
invariant-loop-i l = l.kept ≡ over (tabulate (λ j. sign_digit (elem l.start j)) l.i) l.initial.kept
