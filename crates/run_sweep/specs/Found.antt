-- What a check finds, as the number that the run record has for it.
use Rattle.std.specs.Prelude.{ℕ, Option, Some, None}
use Rattle.run_sweep.specs.declared.check.Stop.{Stop}
use Rattle.run_sweep.specs.declared.check.Stop.TheVariants.{Settled, Risen}

abbrev pub stop_number : Stop → ℕ
stop_number Settled = 1
stop_number Risen = 2

-- 0 where it goes on
abbrev pub found_number : Option Stop → ℕ
found_number None = 0
found_number (Some stop) = stop_number stop
