-- `record_call::run::finish_run` meets its contract: nothing refuses the job's finish. Assumes nothing.
use Rattle.record_call.proofs.Decoding.{finishes_now, finished}
use Rattle.record_call.proofs.run.finish_run.Goals as goal

pub finish_accepted-requires : goal.finish_accepted-requires
finish_accepted-requires c = finishes_now c.args.job.decoded c.args.b.now c.args.dual.now c.args.workspace.now c.run_job-run.ensures.0 c.requires.0 c.run_job-run.ensures.1 c.requires.3.choice_room c.requires.2 c.requires.3.search_room

pub returns : goal.returns
returns c = let f = finished c.args.job.decoded c.run_job-run.ensures.0 c.requires.0 c.run_job-run.ensures.1 c.requires.3.choice_room c.requires.2 c.requires.3.search_room c.finish_accepted.ensures in
    record { result_is = cc f.0; choice_is = f.1 }
