use mathlib.Core.List.{List}
use mathlib.Core.Path.{ap, ◌∙◌}
use Prim.Native.Nat.{ℕ}
use Rattle.laws.specs.Lists.{over}
use Rattle.record_call.proofs.Answering.{written_bytes}
use Rattle.record_call.proofs.answer_job.Goals as goal

pub returns : goal.returns
returns c = let a = c.args in
    c.write_answer.ensures
    ∙ ap (λ (y : List ℕ). over y a.answer.now) (written_bytes a.job.now c.requires.0.accepted c.job_answer-fields.result _ _ c.job_answer-fields.ensures.fields_are c.job_answer-fields.ensures.choice_is)
