use Prim.Native.Nat.{◌+◌, ◌-◌, ◌*◌}
use native.Mathlib.Omega.{arith}
use mathlib.Core.Path.{refl}
use lib.ListN.{get_or}
use Rattle.sign_words.specs.Packed.{word, digit_at}
use Rattle.sign_words.proofs.Digits.{from_turn, from_room}
use Rattle.sign_words.proofs.PackedLaws.{sign_digit_lt}
use Rattle.sign_words.proofs.pack.pack_word.Goals as goal

pub loop-j-init : goal.loop-j-init
unfolding word
loop-j-init c = refl

pub overflow_mul-w : goal.overflow_mul-w
overflow_mul-w c = let a = c.args in
    omega (arith, from_room (digit_at a.signs.now a.k) 64 c.loop-j.j c.loop-j.w 63 (λ i. sign_digit_lt _) (omega arith) c.loop-j.invariant)

pub overflow_add-w : goal.overflow_add-w
overflow_add-w c = let a = c.args in
    let l = c.loop-j in
    let room = from_room (digit_at a.signs.now a.k) 64 l.j l.w 63 (λ i. sign_digit_lt _) (omega arith) l.invariant in
    omega (arith, sign_digit_lt (get_or a.signs.now (64 * a.k + (l.j - 1)) 0))

pub loop-j-preserved : goal.loop-j-preserved
loop-j-preserved c = let a = c.args in
    let l = c.loop-j in
    rw c.sign_bit.ensures (from_turn (digit_at a.signs.now a.k) 64 (l.j - 1) l.j l.w (omega arith) (omega arith) l.invariant)
