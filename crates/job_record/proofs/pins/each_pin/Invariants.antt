use mathlib.Core.Path.{◌≡◌}
use Rattle.laws.specs.Refusal.{first_of}
use Rattle.job_record.specs.Fields.{pin_at}
use Rattle.job_record.specs.Number.{pin_number}
use Rattle.job_record.specs.Values.{states_of}
use Rattle.job_record.proofs.pins.each_pin.Given as goal

abbrev pub invariant-loop-k : goal.invariant-loop-k
invariant-loop-k l = (first_of (pin_number l.job l.n l.at) l.k ≡ 0) × (l.states ≡ states_of l.job l.n l.at l.k) × (l.place ≡ pin_at l.at l.k)
