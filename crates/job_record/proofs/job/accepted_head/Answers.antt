use Rattle.job_record.proofs.Accepted.{fields}
use Rattle.job_record.proofs.FieldByField.{head_values_are}
use Rattle.job_record.proofs.job.accepted_head.Goals as goal

pub returns : goal.returns
returns c = head_values_are c.args.job.bytes.now c.read_head.ensures c.head_values.ensures (fields c.args.job.bytes.now c.args.job.accepted).there
