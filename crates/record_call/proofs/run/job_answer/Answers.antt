use native.Mathlib.Omega.{arith}
use Rattle.record_call.proofs.Decoding.{fronts_fit, cut}
use Rattle.record_call.proofs.run.job_answer.Goals as goal

pub cut_hall-requires : goal.cut_hall-requires
cut_hall-requires c =
    let f = fronts_fit c.args.job.now c.requires.0.accepted c.job_of-j.result c.job_of-j.ensures in
    (record { rows_there = omega arith; cols_there = omega arith; values_there = omega arith }, omega arith)

pub invariant_of-own : goal.invariant_of-own
invariant_of-own c = record { own = rw c.cut_hall.ensures (cut c.args.job.now c.requires.0.accepted c.requires.0 c.job_of-j.result c.job_of-j.ensures) }
