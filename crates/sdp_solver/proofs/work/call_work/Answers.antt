-- `sdp_solver::work::call_work` meets its contract, on the sign table that was made. Assumes nothing.
use Prim.Native.Nat.{◌≤◌}
use mathlib.Core.Path.{ap}
use native.Mathlib.Omega.{arith}
use Rattle.limits.specs.Limits.{most_sign_entries}
use Rattle.tables.specs.Table.{Table}
use Rattle.tables.proofs.Checks.{hall_accepted}
use Rattle.sdp_solver.proofs.work.call_work.Goals as goal

pub make-requires-2 : goal.make-requires-2
make-requires-2 c =
    let few : c.entries.result.count ≤ most_sign_entries = omega (arith, c.make.ensures.fits, ap (λ (t : Table). t.count) c.entries.ensures) in
    (few, omega (arith, (hall_accepted c.args.hall.judged).wagons))
