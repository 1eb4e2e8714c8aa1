use Rattle.limits.specs.Limits.{most_rank, most_draws}
use mathlib.Core.Path.{◌≡◌, ◌∙◌}
use Prim.Native.Nat.{◌*◌}
use native.Mathlib.Nat.{mul-le-mul}
use native.Mathlib.Omega.{arith}
use Rattle.job_record.specs.Values.{job_drawn}
use Rattle.job_record.proofs.Accepted.{fields, drawn_held}
use Rattle.job_record.proofs.job.read_draws.Goals as goal

pub overflow_mul-count : goal.overflow_mul-count
overflow_mul-count c = let d = (drawn_held c.args.job.bytes.now c.args.job.accepted c.parts_of-p.ensures.3 c.field_at-drawn.ensures).0 in let f = fields c.args.job.bytes.now c.args.job.accepted in
    omega (arith, mul-le-mul {n₁ = c.unwrap_or.result} {m₁ = c.parts_of-p.result.rank} {n₂ = most_draws} {m₂ = most_rank} (omega arith) c.parts_of-p.ensures.4)

pub read_stored-requires : goal.read_stored-requires
read_stored-requires c = let s = c.args.job.bytes.now in let f = fields s c.args.job.accepted in let d = (drawn_held s c.args.job.accepted c.parts_of-p.ensures.3 c.field_at-drawn.ensures).0 in
    let e : c.unwrap_or.result * c.parts_of-p.result.rank ≡ job_drawn s = rw (c.unwrap_or.ensures, d, c.parts_of-p.ensures.0) in
    (omega arith, omega arith)

pub returns : goal.returns
returns c = let d = (drawn_held c.args.job.bytes.now c.args.job.accepted c.parts_of-p.ensures.3 c.field_at-drawn.ensures).0 in
    c.read_stored.ensures ∙ simp (c.unwrap_or.ensures ∙ d, c.parts_of-p.ensures.3, c.parts_of-p.ensures.0)
