use native.Mathlib.Omega.{arith}
use Rattle.job_record.proofs.Entries.{values_are, table_passed, stored}
use mathlib.Core.Path.{refl}
use Rattle.job_record.proofs.number.table_number.Goals as goal

pub costs_number-requires : goal.costs_number-requires
costs_number-requires c = let h = c.args.head.there in let room = c.requires.1 in
    (omega arith, omega arith, values_are c.args.head.bytes.now c.args.head.values.count (c.in_ok-entries_number.ensures.1 refl) (omega arith))

pub returns : goal.returns
returns c = let h = c.args.head.there in
    (table_passed c.args.head.bytes.now h.n h.count c.in_ok-entries_number.ensures.0 refl c.costs_number.ensures.0, λ z. stored c.args.head.bytes.now h.n h.count (c.in_ok-entries_number.ensures.1 refl) (c.costs_number.ensures.1 z))
