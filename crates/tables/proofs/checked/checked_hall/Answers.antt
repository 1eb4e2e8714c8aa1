-- `tables::checked::checked_hall` meets its contract: what no number refuses is lent.
use mathlib.Core.Path.{sym}
use Rattle.tables.proofs.Checks.{hall_accepted}
use Rattle.tables.proofs.checked.checked_hall.Goals as goal

pub judged_hall-requires : goal.judged_hall-requires
judged_hall-requires c = let number = sym c.in_ok-hall_number.ensures in
    let (lent, costs) = c.requires c.if-short.false in
    record { lent = lent (hall_accepted number).entries; costs_there = costs (hall_accepted number).wagons; judged = number }
