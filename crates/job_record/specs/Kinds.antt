-- The codes of rules and of kinds of start (01, "Job and answer records").
use Rattle.std.specs.Prelude.{ℕ}
use Rattle.job_record.specs.declared.kinds.Rule.{Rule}
use Rattle.job_record.specs.declared.kinds.Rule.TheVariants.{Grad, GradAdv, Coord, CoordNoStep, CoordMomentum}
use Rattle.job_record.specs.declared.kinds.Start.{Start}
use Rattle.job_record.specs.declared.kinds.Start.TheVariants.{Rows, Ranked, Signs}

abbrev pub rule_code : Rule → ℕ
rule_code Grad = 0
rule_code GradAdv = 1
rule_code Coord = 2
rule_code CoordNoStep = 3
rule_code CoordMomentum = 4

abbrev pub start_code : Start → ℕ
start_code Rows = 0
start_code Ranked = 1
start_code Signs = 2
