use native.Mathlib.Omega.{arith}
use mathlib.Core.Path.{◌≡◌, refl, sym, ◌∙◌, subst}
use lib.ListN.{length}
use Rattle.laws.proofs.Made.{tabulate_all}
use Rattle.sign_words.specs.Packed.{sign_in, unpacked}
use Rattle.sign_words.specs.Signs.{Binary}
use Rattle.sign_words.proofs.PackedLaws.{unpacked_binary}
use Rattle.sign_words.proofs.pack.unpack.Goals as goal

pub returns : goal.returns
unfolding unpacked
returns c = let a = c.args in
    let l = c.loop-i in
    let all : l.i ≡ length a.signs.now = omega arith in
    let all-out : l.signs ≡ unpacked (length a.signs.now) a.words.now =
    rw all at l.invariant ∙ tabulate_all (sign_in a.words.now) (length a.signs.now) a.signs.now refl in
    record { signs_after = all-out; binary = subst Binary (sym all-out) (unpacked_binary (length a.signs.now) a.words.now) }
