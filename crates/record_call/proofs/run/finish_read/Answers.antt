use native.Mathlib.Omega.{arith}
use Rattle.record_call.proofs.Decoding.{start_read, draws_read}
use Rattle.record_call.proofs.run.finish_read.Goals as goal

pub invariant_of-decoded : goal.invariant_of-decoded
invariant_of-decoded c =
    record {
      decoded =
          record {
            accepted = c.args.job.accepted;
            job_is = c.requires.0;
            costs_are = c.requires.1;
            start_is = start_read c.args.job.bytes.now c.args.job.accepted c.job_start_count-numbers.result _ _ c.job_start_count-numbers.ensures.0 c.read_start.ensures (omega arith);
          };
    }

pub finish_job-requires : goal.finish_job-requires
finish_job-requires c = (draws_read c.args.job.bytes.now c.args.job.accepted c.drawn_numbers-drawn.result _ _ c.drawn_numbers-drawn.ensures.0 c.read_draws.ensures (omega arith), c.requires.2)
