use mathlib.Core.Path.{◌∙◌}
use native.Mathlib.Omega.{arith}
use Rattle.job_record.specs.Values.{job_by}
use Rattle.job_record.proofs.Accepted.{fields, settings_held, drawn_held}
use Rattle.job_record.proofs.job.job_of.Goals as goal

pub of-requires : goal.of-requires
of-requires c = let s = c.args.job.bytes.now in omega (arith, settings_held s c.args.job.accepted _ c.accepted_settings-f.ensures.0, (fields s c.args.job.accepted).settings.rule)

pub of-requires-2 : goal.of-requires-2
of-requires-2 c = let s = c.args.job.bytes.now in omega (arith, settings_held s c.args.job.accepted _ c.accepted_settings-f.ensures.0, (fields s c.args.job.accepted).settings.start)

pub returns : goal.returns
unfolding job_by
returns c = let s = c.args.job.bytes.now in let t = settings_held s c.args.job.accepted _ c.accepted_settings-f.ensures.0 in let d = (drawn_held s c.args.job.accepted c.parts_of-p.ensures.3 c.field_at-drawn.ensures).0 in
    simp (c.accepted_head-head.ensures.n, c.accepted_head-head.ensures.count, c.accepted_pins-b.ensures.0, c.accepted_pins-b.ensures.1, t.rank, c.of.ensures ∙ t.rule, c.double_of.ensures ∙ t.number, t.most, t.minimum, c.double_of-2.ensures ∙ t.objective, c.double_of-3.ensures ∙ t.stationarity, t.width, c.of-2.ensures ∙ t.start, c.unwrap_or.ensures ∙ d)
