-- `tables::check::bad_order` meets its contract.
use Rattle.std.proofs.Common.{rules, tests}
use Rattle.laws.specs.Lists.{elem}
use Rattle.tables.specs.Check.{bad_entry, bad_order}
use Rattle.tables.proofs.Anys.{any_ranged}
use Rattle.tables.proofs.check.bad_order.Goals as goal

pub returns : goal.returns
unfolding bad_order
returns c = let a = c.args in let bad = bad_entry a.size (elem a.rows.now) (elem a.cols.now) in
    any_ranged bad a.count c.any.ensures.ran (λ x b q k. search (rules, tests))
