use mathlib.Core.Path.{sym, ◌∙◌}
use Rattle.laws.proofs.Refusal.{stop}
use Rattle.refusal.proofs.Passed.{passed}
use Rattle.job_record.proofs.FieldByField.{settings_parts}
use Rattle.job_record.proofs.Handed.{handed, refused}
use Rattle.job_record.proofs.settings.settings_number.Goals as goal

pub returns-in_err-rule_number : goal.returns-in_err-rule_number
returns-in_err-rule_number c = let p = passed c.from_residual.ensures.1 in stop _ _ (handed p c.in_err-rule_number.ensures) (refused p) ∙ sym (settings_parts c.args.f)
