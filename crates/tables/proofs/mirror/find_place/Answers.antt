-- `tables::mirror::find_place` meets its contract.
use Rattle.tables.proofs.Checks.{lower, upper}
use native.Mathlib.Omega.{arith}
use Rattle.tables.proofs.mirror.find_place.Goals as goal

pub loop-low-preserved-then-place_at-key : goal.loop-low-preserved-then-place_at-key
loop-low-preserved-then-place_at-key c = let inv = c.loop-low.invariant in
    (omega arith, inv.1, lower _ _ _ c.requires.2.climbs _ (omega arith) (omega arith), inv.3)

pub loop-low-preserved : goal.loop-low-preserved
loop-low-preserved c = let inv = c.loop-low.invariant in
    (omega arith, omega arith, inv.2, upper _ _ _ c.requires.2.climbs _ (omega arith))
