use mathlib.Core.Path.{ap, ◌∙◌}
use Prim.Native.Nat.{◌+◌}
use Rattle.job_record.specs.Values.{states_of}
use Rattle.job_record.proofs.Pinning.{count_is, count_there}
use Rattle.job_record.proofs.pins.pins_number.Goals as goal

pub returns : goal.returns
returns c = let s = c.args.job.now in let n = c.args.n in let at = c.args.at in (
  count_there s n at c.field_at.ensures c.in_ok-count.ensures.ok_part c.each_pin.ensures.0,
  λ z. c.each_pin.ensures.1 z ∙ ap (states_of s n (at + 1)) (count_is s n at c.field_at.ensures c.in_ok-count.ensures.ok_part),
)
