use native.Mathlib.Omega.{arith}
use Rattle.record_call.proofs.Decoding.{drawn_is}
use Rattle.record_call.proofs.run.drawn_numbers.Goals as goal

pub overflow_mul-result : goal.overflow_mul-result
overflow_mul-result c = omega (arith, (drawn_is c.args.job.bytes.now c.args.job.accepted c.args.draw_count c.job_rank-rank.result c.requires c.job_rank-rank.ensures.0).1)

pub returns : goal.returns
returns c = drawn_is c.args.job.bytes.now c.args.job.accepted c.args.draw_count c.job_rank-rank.result c.requires c.job_rank-rank.ensures.0
