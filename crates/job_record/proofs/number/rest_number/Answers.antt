use native.Mathlib.Omega.{arith}
use mathlib.Core.Path.{sym}
use Rattle.job_record.proofs.Accepted.{pins_passed}
use Rattle.job_record.proofs.number.rest_number.Goals as goal

pub run_number-requires : goal.run_number-requires
run_number-requires c = let p = pins_passed c.args.head.bytes.now (sym c.in_ok-version_pins.ensures) in
    (omega arith, omega arith)
