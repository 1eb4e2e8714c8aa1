-- `ranged_finish::ranges::ranged_number` meets its contract. Assumes nothing.
use mathlib.Core.Path.{sym, ◌∙◌}
use native.Mathlib.Omega.{arith}
use Rattle.tables.specs.CostTable.{quadratic}
use Rattle.tables.proofs.Checks.{size_parts, order_placed}
use Rattle.ranged_finish.specs.Ranged.{ranged_of, low_of}
use Rattle.ranged_finish.proofs.ranges.ranged_number.Goals as goal

pub ranges_unmirrored-requires : goal.ranges_unmirrored-requires
ranges_unmirrored-requires c = let s = size_parts _ _ _ _ _ (sym c.bad_size.ensures ∙ c.if-bad_size.false) in let l = c.requires.0 s.2 in let a = c.args in (l.0, record { rows_there = l.0.rows_there; cols_there = l.0.cols_there; values_there = l.1 }, order_placed a.ranged.n (quadratic (low_of (ranged_of a.ranged))) (omega (arith, s.1)) (sym c.bad_order.ensures ∙ c.if-bad_order.false))

pub ranges_too_large-requires : goal.ranges_too_large-requires
ranges_too_large-requires c = let s = size_parts _ _ _ _ _ (sym c.bad_size.ensures ∙ c.if-bad_size.false) in let l = c.requires.0 s.2 in let m = c.requires.1 s.1 in (l.0.values_there, l.1, m.0, m.1, omega arith)
