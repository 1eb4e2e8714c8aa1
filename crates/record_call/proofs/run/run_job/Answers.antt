-- `record_call::run::run_job` meets its contract: nothing refuses the job's open and sweep. Assumes nothing.
use mathlib.Core.Path.{◌∙◌}
use native.Mathlib.Omega.{arith}
use Rattle.record_call.proofs.Decoding.{opens_now, opened_run, unswept_run, sweeps_now, swept_run}
use Rattle.record_call.proofs.run.run_job.Goals as goal

pub open_accepted-run-requires : goal.open_accepted-run-requires
open_accepted-run-requires c = opens_now c.args.job.decoded c.code.ensures c.code-2.ensures c.args.factor.now c.requires

pub returns-then-j-eq0 : goal.returns-then-j-eq0
returns-then-j-eq0 c =
    let o = opened_run c.args.job.decoded c.code.ensures c.code-2.ensures c.requires c.open_accepted-run.ensures in
    let stays = unswept_run c.args.job.decoded c.if-j-eq0.true in
    (cc (o.0, stays.0), o.1 ∙ stays.1)

pub sweep_accepted-requires : goal.sweep_accepted-requires
sweep_accepted-requires c =
    let o = opened_run c.args.job.decoded c.code.ensures c.code-2.ensures c.requires c.open_accepted-run.ensures in
    let w = sweeps_now c.args.job.decoded (omega arith) (cc o.0) o.1 in
    let s = w.0 in
    (record { slices = s.slices; costs = s.costs; hall = s.hall }, s.running, s.size_is, s.rank_few, w.1)

pub returns : goal.returns
returns c =
    let o = opened_run c.args.job.decoded c.code.ensures c.code-2.ensures c.requires c.open_accepted-run.ensures in
    swept_run c.args.job.decoded (cc o.0) o.1 c.sweep_accepted.ensures.0 c.sweep_accepted.ensures.1
