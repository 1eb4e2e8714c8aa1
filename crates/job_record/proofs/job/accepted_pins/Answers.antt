use Rattle.job_record.proofs.Accepted.{fields}
use Rattle.job_record.proofs.Whole.{passed}
use Rattle.job_record.proofs.job.accepted_pins.Goals as goal

pub invariant_of-head : goal.invariant_of-head
invariant_of-head c = let f = fields c.args.job.bytes.now c.args.job.accepted in record { there = c.accepted_head.ensures; few = f.few; short = f.short }

pub behind_pins-requires : goal.behind_pins-requires
behind_pins-requires c = (passed c.args.job.bytes.now c.args.job.accepted).pins
