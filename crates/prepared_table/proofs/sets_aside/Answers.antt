-- `prepared_table::sets_aside` meets its contract. Assumes nothing.
use Prim.Native.Nat.{ℕ}
use lib.Dec.{eqb}
use lib.IntN.{nat_abs}
use Rattle.std.proofs.Common.{rules, tests}
use Rattle.tables.specs.Entries.{listed}
use Rattle.tables.proofs.Anys.{any_ranged}
use Rattle.prepared_table.specs.Work.{set_by, sets_aside}
use Rattle.prepared_table.proofs.sets_aside.Goals as goal

pub returns : goal.returns
unfolding sets_aside
returns c = let t = listed c.args.table in let sets = λ (e : ℕ). set_by (eqb (t.row e) (t.column e)) (eqb (nat_abs (t.value e)) 0) in
    any_ranged sets t.count c.any.ensures.ran (λ x b q k. search (rules, tests))
