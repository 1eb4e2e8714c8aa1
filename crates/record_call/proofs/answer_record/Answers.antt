use Rattle.record_call.proofs.Answering.{short_answer, short_workspace, answers_short}
use Rattle.record_call.proofs.answer_record.Goals as goal

pub returns-then-answer-lt-LEAST_ANSWER : goal.returns-then-answer-lt-LEAST_ANSWER
returns-then-answer-lt-LEAST_ANSWER c = let a = c.args in
    answers_short a.job.now a.workspace.now a.answer.now (short_answer a.job.now a.workspace.now a.answer.now c.if-answer-lt-LEAST_ANSWER.true)

pub returns-then-workspace-lt-RECORD_WORKSPACE : goal.returns-then-workspace-lt-RECORD_WORKSPACE
returns-then-workspace-lt-RECORD_WORKSPACE c = let a = c.args in
    answers_short a.job.now a.workspace.now a.answer.now (short_workspace a.job.now a.workspace.now a.answer.now c.if-answer-lt-LEAST_ANSWER.false c.if-workspace-lt-RECORD_WORKSPACE.true)

pub answer_judged-requires : goal.answer_judged-requires
answer_judged-requires c = (c.if-workspace-lt-RECORD_WORKSPACE.false, c.if-answer-lt-LEAST_ANSWER.false)
