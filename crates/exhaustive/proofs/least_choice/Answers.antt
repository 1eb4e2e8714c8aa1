-- `exhaustive::least_choice` meets its contract. Assumes nothing.
use mathlib.Core.Path.{refl, sym}
use Rattle.tables.proofs.Checks.{hall_passes}
use Rattle.exhaustive.proofs.Numbers.{walk_accepted}
use Rattle.exhaustive.proofs.Founds.{found}
use Rattle.exhaustive.proofs.least_choice.Goals as goal

pub judged_hall-requires : goal.judged_hall-requires
judged_hall-requires c = let (lent, costs, room, few, hall) = walk_accepted _ _ _ _ _ _ _ (sym c.in_ok-walk_number.ensures) in record { lent = lent; costs_there = costs; judged = hall_passes hall }

pub least_of-requires : goal.least_of-requires
least_of-requires c = let (lent, costs, room, few, hall) = walk_accepted _ _ _ _ _ _ _ (sym c.in_ok-walk_number.ensures) in let (n, t, own) = c.judged_hall.ensures in rw n (room, few)

pub returns : goal.returns
returns c = let (lent, costs, room, few, hall) = walk_accepted _ _ _ _ _ _ _ (sym c.in_ok-walk_number.ensures) in
    let (n, t, own) = c.judged_hall.ensures in
    let v = rw (n, t, own) at c.least_of.ensures in
    record { refused = λ e. absurd (e (sym c.in_ok-walk_number.ensures)); accepted = λ z. (_, refl, found c.args.hall.c.now hall v.choice v.found.0 v.found.1) }
