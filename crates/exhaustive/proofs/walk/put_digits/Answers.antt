-- `exhaustive::walk::put_digits` meets its contract. Assumes nothing.
use Prim.Native.Nat.{◌/◌, ℕ}
use mathlib.Core.Path.{◌≡◌, sym, ap, ◌∙◌}
use mathlib.Core.List.{List, ◌++◌}
use native.Mathlib.Omega.{arith}
use lib.ListN.{length, set, take, drop}
use lib.Seq.{length-take-le}
use Rattle.laws.specs.Lists.{over, tabulate}
use Rattle.std.specs.Int.{bit_at}
use Rattle.std.proofs.lemmas.Nat.{shr-shr}
use Rattle.exhaustive.specs.Choices.{digits_of}
use Rattle.exhaustive.proofs.Digits.{digit_at_lem}
use Rattle.laws.proofs.Made.{length_tabulate, tabulate_all, tabulate_next}
use Rattle.exhaustive.proofs.walk.put_digits.Goals as goal

pub loop-byte-preserved : goal.loop-byte-preserved
loop-byte-preserved c = let l = c.loop-byte in let a = c.args in (
  ap (λ (y : ℕ). y / 2) l.invariant.0 ∙ shr-shr a.k l.byte-index 1,
  ap (λ (v : ℕ). set l.front l.byte-index v) (digit_at_lem a.k l.byte-index l.x l.invariant.0)
      ∙ tabulate_next (bit_at a.k) l.byte-index (take a.n a.b.now) l.front 0 c.loop-byte-test.true l.invariant.1,
)

pub returns : goal.returns
returns c = let l = c.loop-byte in let a = c.args in
    let size : length (take a.n a.b.now) ≡ a.n = length-take-le a.n a.b.now c.requires in
    let all : l.byte-index ≡ a.n = omega (arith, size) in
    let is : l.front ≡ digits_of a.n a.k = l.invariant.1 ∙ ap (λ (m : ℕ). over (tabulate (bit_at a.k) m) (take a.n a.b.now)) all ∙ tabulate_all (bit_at a.k) a.n (take a.n a.b.now) size in
    ap (λ (front : List ℕ). front ++ drop a.n a.b.now) is ∙ ap (λ (m : ℕ). digits_of a.n a.k ++ drop m a.b.now) (sym (length_tabulate (bit_at a.k) a.n))
