use mathlib.Core.Path.{sym, ◌∙◌}
use native.Mathlib.Omega.{arith}
use lib.Seq.{length-take-le}
use Rattle.record_call.proofs.Decoding.{sizes}
use Rattle.record_call.proofs.run.finish_job.Goals as goal

pub overflow_add-used : goal.overflow_add-used
overflow_add-used c = omega (arith, (sizes c.args.job.decoded c.job_rank-rank.result c.job_rank-rank.ensures.0).0)

pub overflow_mul-used : goal.overflow_mul-used
overflow_mul-used c = omega (arith, (sizes c.args.job.decoded c.job_rank-rank.result c.job_rank-rank.ensures.0).1)

pub slice_bounds-factor-end : goal.slice_bounds-factor-end
slice_bounds-factor-end c = omega (arith, (sizes c.args.job.decoded c.job_rank-rank.result c.job_rank-rank.ensures.0).1)

pub slice_bounds-finish_run-end : goal.slice_bounds-finish_run-end
slice_bounds-finish_run-end c = sym (length-take-le _ _ (omega (arith, (sizes c.args.job.decoded c.job_rank-rank.result c.job_rank-rank.ensures.0).1)))

pub finish_run-requires : goal.finish_run-requires
finish_run-requires c = let z = sizes c.args.job.decoded c.job_rank-rank.result c.job_rank-rank.ensures.0 in (c.requires.0, length-take-le _ _ (omega arith) ∙ z.2, omega arith, c.requires.1)
