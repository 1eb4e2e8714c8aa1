-- `tables::check::placed_number` meets its contract, number by number.
use mathlib.Core.Path.{sym, subst, ◌∙◌}
use native.Mathlib.Omega.{arith}
use Rattle.tables.specs.Check.{Placed}
use Rattle.tables.specs.Lent.{lent_table}
use Rattle.tables.proofs.Checks.{size_parts, order_placed}
use Rattle.tables.proofs.check.placed_number.Goals as goal

pub bad_order-requires : goal.bad_order-requires
bad_order-requires c = let l = c.requires.0 (size_parts _ _ _ _ _ (sym c.bad_size.ensures ∙ c.if-bad_size.false)).2 in (l.rows_there, l.cols_there)

pub entries-requires : goal.entries-requires
entries-requires c = c.requires.0 (size_parts _ _ _ _ _ (sym c.bad_size.ensures ∙ c.if-bad_size.false)).2

pub unmirrored-requires : goal.unmirrored-requires
unmirrored-requires c = let a = c.args.table in
    let s = size_parts _ _ _ _ _ (sym c.bad_size.ensures ∙ c.if-bad_size.false) in
    subst (λ t. Placed t.row t.column t.count) (sym c.entries.ensures) (order_placed a.size (lent_table a) (omega (arith, s)) (sym c.bad_order.ensures ∙ c.if-bad_order.false))
