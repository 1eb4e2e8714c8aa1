-- `sdp_solver::open::open_accepted` meets its contract, by what its parts ensure. Assumes nothing.
use Prim.Native.Nat.{◌+◌}
use mathlib.Core.Path.{refl, sym, ap}
use native.Mathlib.Nat.{le_trans}
use native.Mathlib.Omega.{arith}
use lib.Seq.{length-take-le}
use Rattle.std.specs.Prelude.{Ok}
use Rattle.run_limits.proofs.Ranks.{given_under}
use Rattle.run_limits.proofs.Starts.{counted}
use Rattle.tables.specs.Lent.{costs_of}
use Rattle.tables.proofs.Checks.{hall_passes}
use Rattle.run_contract.specs.Calls.{asked_of}
use Rattle.run_contract.proofs.Accepting.{open_accepted}
use Rattle.sdp_solver.proofs.Opening.{room, started, opened}
use Rattle.sdp_solver.proofs.open.open_accepted.Goals as goal

pub overflow_add-size : goal.overflow_add-size
overflow_add-size c =
    let settings = asked_of (costs_of c.args.hall) c.args.asked c.args.numbers.now in
    omega (arith, (open_accepted settings _ c.requires).hall.wagons)

pub rank_meant-meant-requires : goal.rank_meant-meant-requires
rank_meant-meant-requires c =
    let settings = asked_of (costs_of c.args.hall) c.args.asked c.args.numbers.now in
    let openable = open_accepted settings _ c.requires in
    (λ _. omega (arith, openable.hall.wagons), le_trans (given_under (c.args.hall.table.size + 1) c.args.asked.rank) openable.rank_few)

pub overflow_mul-used : goal.overflow_mul-used
overflow_mul-used c =
    let settings = asked_of (costs_of c.args.hall) c.args.asked c.args.numbers.now in
    omega (arith, room settings c.args.factor.now c.requires c.rank_meant-meant.ensures.0 _ refl)

pub prepare_initial_factor-requires : goal.prepare_initial_factor-requires
prepare_initial_factor-requires c =
    let settings = asked_of (costs_of c.args.hall) c.args.asked c.args.numbers.now in
    let openable = open_accepted settings _ c.requires in
    let meant = c.rank_meant-meant.ensures.0 in
    (rw (counted _ _ c.rank_meant-meant.result (c.args.hall.table.size + 1) c.start_of.ensures, meant) openable.numbers_room, room settings c.args.factor.now c.requires meant _ refl, rw meant openable.rank_some)

pub slice_bounds-first_objective-end : goal.slice_bounds-first_objective-end
slice_bounds-first_objective-end c =
    let settings = asked_of (costs_of c.args.hall) c.args.asked c.args.numbers.now in
    room settings c.args.factor.now c.requires c.rank_meant-meant.ensures.0 _ c.prepare_initial_factor.auto.factor

pub slice_bounds-first_objective-end-2 : goal.slice_bounds-first_objective-end-2
slice_bounds-first_objective-end-2 c =
    let settings = asked_of (costs_of c.args.hall) c.args.asked c.args.numbers.now in
    sym (length-take-le _ _ (room settings c.args.factor.now c.requires c.rank_meant-meant.ensures.0 _ c.prepare_initial_factor.auto.factor))

pub judged_hall-judged-requires : goal.judged_hall-judged-requires
judged_hall-judged-requires c =
    let settings = asked_of (costs_of c.args.hall) c.args.asked c.args.numbers.now in
    let openable = open_accepted settings _ c.requires in
    record { lent = openable.slices; costs_there = openable.costs; judged = hall_passes openable.hall }

pub first_objective-last_objective-requires : goal.first_objective-last_objective-requires
first_objective-last_objective-requires c =
    let settings = asked_of (costs_of c.args.hall) c.args.asked c.args.numbers.now in
    rw c.judged_hall-judged.ensures.0
    (length-take-le _ _ (room settings c.args.factor.now c.requires c.rank_meant-meant.ensures.0 _ c.prepare_initial_factor.auto.factor))

pub rule_of-step-requires : goal.rule_of-step-requires
rule_of-step-requires c =
    let settings = asked_of (costs_of c.args.hall) c.args.asked c.args.numbers.now in
    (open_accepted settings _ c.requires).rule_few

pub returns : goal.returns
returns c =
    let o = asked_of (costs_of c.args.hall) c.args.asked c.args.numbers.now in
    let of = c.judged_hall-judged.ensures in
    let objective = rw (of.0, of.1, of.2) at c.first_objective-last_objective.ensures in
    let new = started o c.args.factor.now c.requires c.rank_meant-meant.ensures.0 c.start_of.ensures c.prepare_initial_factor.ensures in
    record {
      numbered = sym c.requires;
      refused = λ n. absurd (n refl);
      accepted = λ z. (ap Ok (opened o c.args.factor.now c.requires c.rank_meant-meant.ensures.0 _ new c.rule_of-step.ensures c.first_stage-stage.ensures objective), new);
    }
