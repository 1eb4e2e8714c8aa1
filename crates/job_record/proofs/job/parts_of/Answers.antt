use mathlib.Core.Path.{◌≡◌, ◌∙◌}
use native.Mathlib.Omega.{arith}
use Rattle.job_record.specs.Values.{job_rank, job_start_count}
use Rattle.job_record.proofs.Accepted.{fields, free_few, settings_held}
use Rattle.job_record.proofs.job.parts_of.Goals as goal

pub rank_meant-rank-requires : goal.rank_meant-rank-requires
rank_meant-rank-requires c = let s = c.args.job.bytes.now in let t = settings_held s c.args.job.accepted _ c.accepted_settings-f.ensures.0 in (λ _. omega (arith, free_few s c.args.job.accepted), rw t.rank (fields s c.args.job.accepted).settings.rank)

pub overflow_cast-f : goal.overflow_cast-f
overflow_cast-f c = let s = c.args.job.bytes.now in omega (arith, settings_held s c.args.job.accepted _ c.accepted_settings-f.ensures.0, (fields s c.args.job.accepted).settings.start)

pub overflow_add-result : goal.overflow_add-result
overflow_add-result c = let s = c.args.job.bytes.now in omega (arith, settings_held s c.args.job.accepted _ c.accepted_settings-f.ensures.0, fields s c.args.job.accepted)

pub returns : goal.returns
returns c = let s = c.args.job.bytes.now in let f = fields s c.args.job.accepted in let t = settings_held s c.args.job.accepted _ c.accepted_settings-f.ensures.0 in
    let rank : c.rank_meant-rank.result ≡ job_rank s = c.rank_meant-rank.ensures.0 ∙ simp (c.accepted_pins-b.ensures.1, t.rank) in
    let count : c.start_length-count.result ≡ job_start_count s = c.start_length-count.ensures.0 ∙ simp (c.accepted_pins-b.ensures.1, t.start, t.most, rank) in
    (rank, t.next, count, omega arith, c.rank_meant-rank.ensures.1, c.start_length-count.ensures.1)
