use mathlib.Core.Path.{sym}
use native.Mathlib.Omega.{arith}
use lib.Seq.{length-take-le}
use Rattle.record_call.proofs.Decoding.{own_n, own_few, own_states, free_fits, free_cut, lift_asks, lifted_choice}
use Rattle.record_call.proofs.run.pinned_answer.Goals as goal

pub slice_bounds-states-end : goal.slice_bounds-states-end
slice_bounds-states-end c = omega (arith, own_few c.args.job.own)

pub slice_bounds-pinned-end : goal.slice_bounds-pinned-end
slice_bounds-pinned-end c = sym (length-take-le _ _ (omega (arith, own_few c.args.job.own)))

pub invariant_of-pinned : goal.invariant_of-pinned
invariant_of-pinned c = record { states_are = own_states c.args.job.own _ _ c.read_states.ensures }

pub slice_bounds-states-end-2 : goal.slice_bounds-states-end-2
slice_bounds-states-end-2 c = omega (arith, own_few c.args.job.own)

pub slice_bounds-lift_choice-end : goal.slice_bounds-lift_choice-end
slice_bounds-lift_choice-end c = sym (length-take-le _ _ (omega (arith, own_few c.args.job.own)))

pub slice_bounds-free-end : goal.slice_bounds-free-end
slice_bounds-free-end c = omega (arith, free_fits c.args.job.record.bytes.now c.args.job.own.accepted c.args.job.settings c.args.job.own.job_is)

pub slice_bounds-lift_choice-end-2 : goal.slice_bounds-lift_choice-end-2
slice_bounds-lift_choice-end-2 c = sym (length-take-le _ _ (omega (arith, free_fits c.args.job.record.bytes.now c.args.job.own.accepted c.args.job.settings c.args.job.own.job_is)))

pub lift_choice-requires : goal.lift_choice-requires
lift_choice-requires c = let a = lift_asks c.args.job.record.bytes.now c.args.job.own.accepted c.args.job.settings.n (own_n c.args.job.own) (own_states c.args.job.own _ _ c.read_states.ensures) (free_cut c.args.job.record.bytes.now c.args.job.own.accepted c.args.job.settings c.args.job.own.job_is _ _ c.finish_pinned-fields.ensures.wagons_are) in
    (a.0, a.1, omega arith, omega arith)

pub returns : goal.returns
returns c =
    record {
      fields_are = c.finish_pinned-fields.ensures.fields_are;
      choice_is = lifted_choice c.args.job.record.bytes.now c.args.job.own.accepted c.args.job.settings.n _ _ _ _ _ (own_n c.args.job.own) (own_states c.args.job.own _ _ c.read_states.ensures) c.finish_pinned-fields.ensures.choice_is c.lift_choice.ensures;
    }
