use Prim.Native.Nat.{ℕ}
use native.Mathlib.Omega.{arith}
use mathlib.Core.Path.{◌≡◌, refl, sym, ◌∙◌, subst}
use lib.ListN.{length}
use Rattle.laws.proofs.Made.{tabulate_next, tabulate_all}
use Rattle.sign_words.specs.Packed.{word, digit_at, packed, Packs}
use Rattle.sign_words.proofs.PackedLaws.{packed_signs}
use Rattle.sign_words.proofs.pack.pack.Goals as goal

pub loop-k-preserved : goal.loop-k-preserved
loop-k-preserved c = let a = c.args in
    let l = c.loop-k in
    rw c.pack_word.ensures (tabulate_next (λ (k : ℕ). word (digit_at a.signs.now k) 64) l.k a.words.now l.words 0 (omega arith) l.invariant)

pub returns : goal.returns
unfolding packed
returns c = let a = c.args in
    let l = c.loop-k in
    let all : l.k ≡ length a.words.now = omega arith in
    let packs : l.words ≡ packed (length a.words.now) a.signs.now =
    rw all at l.invariant ∙ tabulate_all (λ (k : ℕ). word (digit_at a.signs.now k) 64) (length a.words.now) a.words.now refl in
    record { words_after = packs; packs = subst (Packs (length a.signs.now) a.signs.now) (sym packs) (packed_signs (length a.words.now) a.signs.now c.requires.1) }
