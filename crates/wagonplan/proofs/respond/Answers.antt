use Rattle.record_call.proofs.Framed.{framed}
use Rattle.wagonplan.proofs.respond.Goals as goal

pub returns : goal.returns
returns c = let f = framed c.args.job.now c.args.workspace.now c.args.answer.now _ c.big_endian.result c.requires.0 c.requires.1 c.answer_record.ensures.written c.big_endian.ensures.0 in
    (f.0, f.1)
