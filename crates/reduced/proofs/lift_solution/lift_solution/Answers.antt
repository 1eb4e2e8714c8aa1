-- `reduced::lift_solution` meets its contract: the part that is lent on is the first places. Assumes nothing.
use Rattle.std.specs.Prelude.{refl}
use Rattle.refusal.proofs.Passed.{passed, some_number}
use Rattle.reduced.proofs.Lifting.{lifts_short, judged, lifts_index, lifts_mapped, long_enough, lift_front, front_length, lifts_done}
use Rattle.reduced.proofs.lift_solution.lift_solution.Goals as goal

pub returns-then-lift_short : goal.returns-then-lift_short
returns-then-lift_short c = lifts_short c.lift_short.ensures c.if-lift_short.true

pub returns-in_err-index_refusal : goal.returns-in_err-index_refusal
returns-in_err-index_refusal c = rw (passed c.from_residual.ensures.1) (lifts_index (judged c.lift_short.ensures c.if-lift_short.false c.in_err-index_refusal.ensures) (some_number _))

pub slice_bounds-put_lifted-end : goal.slice_bounds-put_lifted-end
slice_bounds-put_lifted-end c = long_enough (judged c.lift_short.ensures c.if-lift_short.false c.in_ok-index_refusal.ensures) refl

pub slice_bounds-put_lifted-end-2 : goal.slice_bounds-put_lifted-end-2
slice_bounds-put_lifted-end-2 c = front_length (judged c.lift_short.ensures c.if-lift_short.false c.in_ok-index_refusal.ensures) refl

pub put_lifted-requires : goal.put_lifted-requires
put_lifted-requires c = let j = judged c.lift_short.ensures c.if-lift_short.false c.in_ok-index_refusal.ensures in
    record { lift_lent = lift_front j refl; mapped = lifts_mapped j refl }

pub returns : goal.returns
returns c = lifts_done (judged c.lift_short.ensures c.if-lift_short.false c.in_ok-index_refusal.ensures) refl c.put_lifted.ensures
