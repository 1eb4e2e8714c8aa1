use Prim.Native.Nat.{◌+◌}
use mathlib.Core.Path.{ap, ◌∙◌}
use native.Mathlib.Omega.{arith}
use Rattle.job_record.specs.Reading.{settings_from, settings_values}
use Rattle.job_record.specs.Values.{settings_place}
use Rattle.job_record.proofs.Accepted.{settings_held}
use Rattle.job_record.proofs.FieldByField.{number_below}
use Rattle.job_record.proofs.job.accepted_settings.Goals as goal

pub returns : goal.returns
returns c = let s = c.args.job.now in
    let e = c.settings_values.ensures ∙ ap settings_values (c.read_settings.ensures ∙ ap (settings_from s) c.requires.1) in
    let t = settings_held s c.requires.0 _ e in
    (e, omega (arith, number_below s (settings_place s + 10) 4 (λ i. omega (arith, c.type_inv.job i))), omega (arith, number_below s (settings_place s + 14) 4 (λ i. omega (arith, c.type_inv.job i))))
