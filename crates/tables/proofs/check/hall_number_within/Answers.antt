-- `tables::check::hall_number_within` meets its contract: once 13 to 15 are passed, 16 may be judged.
use mathlib.Core.Path.{sym}
use Rattle.tables.proofs.Checks.{placed_size}
use Rattle.tables.proofs.check.hall_number_within.Goals as goal

pub hall_too_large-requires : goal.hall_too_large-requires
hall_too_large-requires c = let p = c.requires in
    let s = placed_size _ _ _ _ _ (sym c.in_ok-placed_number.ensures) in
    ((p.0 s.2).values_there, p.1 s.1, p.3)
