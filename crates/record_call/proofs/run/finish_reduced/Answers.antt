use mathlib.Core.Path.{ap, ◌∙◌}
use native.Mathlib.Omega.{arith}
use Rattle.tables.specs.Table.{Table}
use Rattle.tables.proofs.Checks.{hall_passes}
use Rattle.record_call.proofs.Decoding.{own_n, own_reducing, judged_wagons, judged_reduced, run_few, run_figures, run_fields}
use Rattle.record_call.proofs.run.finish_reduced.Goals as goal

pub judged_hall-requires : goal.judged_hall-requires
judged_hall-requires c =
    let o = c.args.pinned.own in
    let own = own_reducing o.record.bytes.now o.own.accepted o.own.costs_are c.args.pinned.states_are in
    record { lent = own.lent; costs_there = own.costs_there; judged = hall_passes own.hall }

pub reduce-t-requires : goal.reduce-t-requires
reduce-t-requires c =
    let o = c.args.pinned.own in
    let own = own_reducing o.record.bytes.now o.own.accepted o.own.costs_are c.args.pinned.states_are in
    let (n, t, _) = c.judged_hall.ensures in
    rw (n, ap (λ (x : Table). x.count) t) (own.states_there, omega (arith, own.hall.wagons), c.requires.2, omega (arith, own.hall.wagons))

pub cut_hall-requires : goal.cut_hall-requires
cut_hall-requires c =
    let o = c.args.pinned.own in
    let r = judged_reduced o.hall o.own c.args.pinned.states_are c.judged_hall.result c.judged_hall.ensures c.reduce-t.ensures.1 c.reduce-t.ensures.2 c.requires.2 in (
      record { rows_there = omega arith; cols_there = omega arith; values_there = omega arith },
      omega (arith, run_few o.record.bytes.now o.own.accepted r),
    )

pub finish_read-x-requires : goal.finish_read-x-requires
finish_read-x-requires c =
    let o = c.args.pinned.own in
    let r = judged_reduced o.hall o.own c.args.pinned.states_are c.judged_hall.result c.judged_hall.ensures c.reduce-t.ensures.1 c.reduce-t.ensures.2 c.requires.2 in
    (o.own.job_is, c.cut_hall.ensures ∙ r.costs_are, c.requires.1)

pub fields_of-requires : goal.fields_of-requires
fields_of-requires c =
    let o = c.args.pinned.own in
    let r = judged_reduced o.hall o.own c.args.pinned.states_are c.judged_hall.result c.judged_hall.ensures c.reduce-t.ensures.1 c.reduce-t.ensures.2 c.requires.2 in
    run_figures o.record.bytes.now o.own.accepted r (own_n o.own) c.finish_read-x.ensures.result_is

pub returns : goal.returns
returns c =
    let o = c.args.pinned.own in
    let r = judged_reduced o.hall o.own c.args.pinned.states_are c.judged_hall.result c.judged_hall.ensures c.reduce-t.ensures.1 c.reduce-t.ensures.2 c.requires.2 in
    record {
      fields_are = run_fields o.record.bytes.now o.own.accepted r (own_n o.own) c.finish_read-x.ensures.result_is c.fields_of.ensures;
      wagons_are = judged_wagons o.hall o.own c.args.pinned.states_are c.judged_hall.result c.judged_hall.ensures _ _ c.reduce-t.ensures.0;
      choice_is = c.finish_read-x.ensures.choice_is;
    }
