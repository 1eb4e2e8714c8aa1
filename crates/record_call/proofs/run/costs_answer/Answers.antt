use Rattle.record_call.proofs.Decoding.{unpinned_run, unpinned_figures, unpinned_fields, unpinned_choice}
use Rattle.record_call.proofs.run.costs_answer.Goals as goal

pub returns-then-j-ne0 : goal.returns-then-j-ne0
returns-then-j-ne0 c = c.pinned_answer.ensures

pub finish_read-x-requires : goal.finish_read-x-requires
finish_read-x-requires c = (c.args.job.own.job_is, unpinned_run c.args.job.record.bytes.now c.args.job.own.accepted c.args.job.own c.if-j-ne0.false, c.requires)

pub fields_of-requires : goal.fields_of-requires
fields_of-requires c = unpinned_figures c.args.job.record.bytes.now c.args.job.own.accepted c.args.job.own c.if-j-ne0.false c.finish_read-x.ensures.result_is

pub returns : goal.returns
returns c =
    record {
      fields_are = unpinned_fields c.args.job.record.bytes.now c.args.job.own.accepted c.args.job.own c.if-j-ne0.false c.finish_read-x.ensures.result_is c.fields_of.ensures;
      choice_is = unpinned_choice c.args.job.record.bytes.now c.args.job.own.accepted c.args.job.own c.if-j-ne0.false _ _ c.finish_read-x.ensures.choice_is;
    }
