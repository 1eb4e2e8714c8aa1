use mathlib.Core.Path.{◌≡◌, sym}
use mathlib.Core.List.{append_assoc}
use Prim.Native.Nat.{◌+◌, ◌-◌}
use native.Mathlib.Omega.{arith}
use lib.ListN.{length, take}
use lib.Seq.{length-take-le, drop-drop}
use Rattle.answer_record.specs.Put.{put}
use Rattle.answer_record.proofs.put.put_bytes.Goals as goal

pub returns : goal.returns
unfolding put
returns c = let a = c.args in
    let part : a.at + a.count - a.at ≡ a.count = omega arith in
    let long : length (take a.count a.bytes.now) ≡ a.count = length-take-le a.count a.bytes.now c.requires.1 in
    rw (part, c.copy.ensures, long) (rw (drop-drop a.count a.at a.out.now) (sym (append_assoc (take a.at a.out.now) (take a.count a.bytes.now) _)))
