use mathlib.Core.Path.{refl}
use Rattle.job_record.proofs.Pinning.{turn_refused, turn_room, turn_on}
use Rattle.refusal.proofs.Passed.{passed}
use Rattle.job_record.proofs.Handed.{handed, refused}
use Rattle.job_record.proofs.pins.each_pin.Goals as goal

pub returns-in_err-judged_pin : goal.returns-in_err-judged_pin
returns-in_err-judged_pin c = let p = passed c.from_residual.ensures.1 in
    (turn_refused _ _ _ _ c.loop-k.invariant.0 c.loop-k.invariant.1 c.loop-k.invariant.2 c.read_pin-pin.ensures (handed p c.in_err-judged_pin.ensures) _ c.loop-k-test.true (refused p), λ z. absurd (refused p z))

pub put_pin-requires : goal.put_pin-requires
put_pin-requires c = turn_room _ _ _ _ c.loop-k.invariant.0 c.loop-k.invariant.1 c.loop-k.invariant.2 c.read_pin-pin.ensures c.in_ok-judged_pin.ensures refl

pub loop-k-preserved : goal.loop-k-preserved
loop-k-preserved c = turn_on _ _ _ _ c.loop-k.invariant.0 c.loop-k.invariant.1 c.loop-k.invariant.2 c.read_pin-pin.ensures c.in_ok-judged_pin.ensures refl c.put_pin.ensures
