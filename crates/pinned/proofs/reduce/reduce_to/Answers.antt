use Rattle.pinned.proofs.Steps.{turned_range, free_low, free_short, beside_held_fits, held_small, shrinks}
use Rattle.pinned.proofs.Walk.{entries_wrote, entries_many}
use Rattle.reduced.proofs.Distinct.{range_up}
use Rattle.tables.proofs.Checks.{hall_accepted}
use Rattle.laws.proofs.Integer.{held}
use native.Mathlib.Omega.{arith}
use mathlib.Core.Path.{refl, ap}
use lib.ListN.{length}
use Rattle.pinned.proofs.reduce.reduce_to.Goals as goal

pub held_choice-held-requires : goal.held_choice-held-requires
held_choice-held-requires c = ((hall_accepted c.args.hall.judged).wagons, c.requires.0)

pub beside_sums-sums-requires : goal.beside_sums-sums-requires
beside_sums-sums-requires c = (range_up (hall_accepted c.args.hall.judged).wagons (turned_range (hall_accepted c.args.hall.judged).in_range), omega (arith, (hall_accepted c.args.hall.judged).magnitude))

pub held_cost-constant-requires : goal.held_cost-constant-requires
held_cost-constant-requires c = let a = c.args in
    (c.args.hall.costs_there, (hall_accepted c.args.hall.judged).wagons, held_small (hall_accepted c.args.hall.judged) a.states.now c.held_choice-held.ensures c.beside_sums-sums.ensures)

pub put_costs-requires : goal.put_costs-requires
put_costs-requires c = let a = c.args in (
  λ k l. beside_held_fits (hall_accepted c.args.hall.judged) a.states.now c.held_choice-held.ensures c.beside_sums-sums.ensures a.hall.c.now refl c.args.hall.costs_there _ (free_low a.hall.n a.states.now c.requires.1 k l),
  omega (arith, free_short a.hall.n a.states.now c.requires.1, c.requires.3),
)

pub free_places-places-requires : goal.free_places-places-requires
free_places-places-requires c = ((hall_accepted c.args.hall.judged).wagons, c.requires.0)

pub invariant_of-placed : goal.invariant_of-placed
invariant_of-placed c = record { in_range = range_up (hall_accepted c.args.hall.judged).wagons (hall_accepted c.args.hall.judged).in_range }

pub free_entries-count-requires : goal.free_entries-count-requires
free_entries-count-requires c = (omega (arith, (hall_accepted c.args.hall.judged).entries), c.requires.2)

pub returns : goal.returns
returns c = let a = c.args in
    (ap length c.requires.1, rw (held _ c.held_cost-constant.type_inv) (shrinks (hall_accepted c.args.hall.judged) a.states.now c.held_choice-held.ensures c.beside_sums-sums.ensures c.requires.1 c.held_cost-constant.ensures c.put_costs.ensures (entries_wrote (hall_accepted c.args.hall.judged) a.states.now c.free_places-places.ensures c.requires.1 c.requires.2 c.free_entries-count.ensures) (entries_many (hall_accepted c.args.hall.judged) a.states.now c.free_places-places.ensures c.requires.1 c.requires.2 c.free_entries-count.ensures)))
