-- `tables::mirror::unmirrored_by_search` meets its contract.
use Prim.Native.Nat.{ℕ}
use mathlib.Core.Bool.{not}
use Rattle.std.proofs.Common.{rules, tests}
use Rattle.laws.specs.Lists.{any_below}
use Rattle.tables.specs.Check.{is_mirror, unmirrored}
use Rattle.tables.specs.Entries.{listed}
use Rattle.tables.proofs.Anys.{any_ranged}
use Rattle.tables.proofs.mirror.unmirrored_by_search.Goals as goal

pub returns : goal.returns
unfolding unmirrored
returns c = let t = listed c.args.table in let alone = λ (k : ℕ). not (any_below t.count (is_mirror t k)) in
    any_ranged alone t.count c.any.ensures.ran (λ x b q k. search (rules, tests))
