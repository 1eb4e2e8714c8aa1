use borrow.Author.Rules.{rules}
use Prim.Native.Nat.{ℕ}
use mathlib.Core.Path.{refl, sym, ap, ◌∙◌}
use lib.Seq.{drop_at, length-take-le}
use native.Mathlib.Omega.{arith}
use Rattle.laws.specs.Lists.{over}
use Rattle.limits.specs.Limits.{record_workspace}
use Rattle.refusal.proofs.Passed.{some_number}
use Rattle.answer_record.specs.Answer.{refusal_bytes}
use Rattle.record_call.proofs.Decoding.{at_fronts}
use Rattle.record_call.proofs.Answering.{roomy, answers_refused, answers_accepted}
use Rattle.record_call.proofs.answer_judged.Goals as goal

pub returns-in-Err : goal.returns-in-Err
returns-in-Err c = let a = c.args in
    answers_refused a.job.now a.workspace.now a.answer.now _ _ (roomy a.job.now a.workspace.now a.answer.now c.requires.1 c.requires.0)
    c.in-Err.ensures.numbered (some_number _) (c.write_refusal.ensures ∙ ap (λ (k : ℕ). over (refusal_bytes k) a.answer.now) c.number.ensures)

pub answer_job-requires : goal.answer_job-requires
answer_job-requires c = (at_fronts c.args.job.now (sym c.in_default.ensures.numbered) (c.in_default.ensures.kept refl) (record { rows_room = omega arith; cols_room = omega arith; values_room = omega arith; c_room = omega arith }), search rules, c.requires.1)

pub returns : goal.returns
returns c = let a = c.args in
    answers_accepted a.job.now a.workspace.now a.answer.now (λ i. omega (arith, c.type_inv.job i)) _ _
    (drop_at c.answer_job.new.workspace _ record_workspace (omega (arith, length-take-le record_workspace a.workspace.now c.requires.0)))
    (roomy a.job.now a.workspace.now a.answer.now c.requires.1 c.requires.0)
    (sym c.in_default.ensures.numbered) c.answer_job.ensures
