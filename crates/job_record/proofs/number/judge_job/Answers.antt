use mathlib.Core.Path.{refl, sym}
use Rattle.job_record.proofs.Sections.{head}
use Rattle.job_record.proofs.Whole.{at_head, at_table, at_rest}
use Rattle.job_record.proofs.FieldByField.{head_number_is, head_values_are}
use Rattle.refusal.proofs.Passed.{passed}
use Rattle.job_record.proofs.Handed.{handed, refused}
use Rattle.job_record.proofs.number.judge_job.Goals as goal

pub returns-in_err-head_number : goal.returns-in_err-head_number
returns-in_err-head_number c = let s = c.args.job.now in let p = passed c.from_residual.ensures.1 in
    record { numbered = at_head s (head_number_is s c.read_head-head.ensures (handed p c.in_err-head_number.ensures)) (refused p); kept = λ z. absurd (refused p z) }

pub invariant_of-v : goal.invariant_of-v
invariant_of-v c = let s = c.args.job.now in
    let h = head s (sym (head_number_is s c.read_head-head.ensures c.in_ok-head_number.ensures)) in
    record { there = head_values_are s c.read_head-head.ensures c.head_values.ensures h.there; few = h.few; short = h.short }

pub table_number-requires : goal.table_number-requires
table_number-requires c = ((head c.args.job.now (sym (head_number_is c.args.job.now c.read_head-head.ensures c.in_ok-head_number.ensures))).there, c.requires)

pub returns-in_err-table_number : goal.returns-in_err-table_number
returns-in_err-table_number c = let s = c.args.job.now in let p = passed c.from_residual-in_err-table_number.ensures.1 in
    let number = head_number_is s c.read_head-head.ensures c.in_ok-head_number.ensures in
    record { numbered = at_table s number refl (handed p c.in_err-table_number.ensures.0) (refused p); kept = λ z. absurd (refused p z) }

pub returns : goal.returns
returns c = let s = c.args.job.now in
    let number = head_number_is s c.read_head-head.ensures c.in_ok-head_number.ensures in
    record { numbered = at_rest s number refl c.in_ok-table_number.ensures.0 refl c.rest_number.ensures; kept = λ z. c.in_ok-table_number.ensures.1 refl }
