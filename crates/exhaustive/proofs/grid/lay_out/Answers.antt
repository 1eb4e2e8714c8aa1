-- `exhaustive::grid::lay_out` meets its contract. Assumes nothing.
use Prim.Native.Nat.{◌+◌}
use mathlib.Core.Path.{sym, subst}
use native.Mathlib.Omega.{arith}
use Rattle.laws.specs.Lists.{elem_z}
use Rattle.exhaustive.proofs.Placing.{Laid, none_laid, next_laid, next_fits, all_laid}
use Rattle.laws.proofs.Integer.{held}
use Rattle.exhaustive.proofs.grid.lay_out.Goals as goal

pub loop-k-init : goal.loop-k-init
loop-k-init c = none_laid _ _ _ _ c.requires.2

pub add_at-requires : goal.add_at-requires
add_at-requires c = let a = c.args in let l = c.loop-k in let low = c.requires.0.rows_in c.loop-k.k (omega arith) in let left = c.requires.0.cols_in c.loop-k.k (omega arith) in (rw c.from-i.ensures low, rw c.from-j.ensures left, next_fits a.table.count a.table.rows.now a.table.cols.now a.table.values.now c.requires.1 l.k l.grid l.invariant (omega arith) c.from-i.result c.from-j.result _ c.from-i.ensures c.from-j.ensures (held (elem_z a.table.values.now l.k) c.add_at-arg-1.given) (rw c.from-i.ensures low) (rw c.from-j.ensures left))

pub loop-k-preserved : goal.loop-k-preserved
loop-k-preserved c = let a = c.args in let l = c.loop-k in let low = c.requires.0.rows_in c.loop-k.k (omega arith) in let left = c.requires.0.cols_in c.loop-k.k (omega arith) in subst (Laid a.table.rows.now a.table.cols.now a.table.values.now (l.k + 1)) (sym c.add_at.ensures) (next_laid a.table.rows.now a.table.cols.now a.table.values.now l.k l.grid l.invariant c.from-i.result c.from-j.result _ c.from-i.ensures c.from-j.ensures (held (elem_z a.table.values.now l.k) c.add_at-arg-1.given) (rw c.from-i.ensures low) (rw c.from-j.ensures left))

pub returns : goal.returns
returns c = all_laid c.args.table.count c.args.table.rows.now c.args.table.cols.now c.args.table.values.now c.requires.1 c.loop-k.k c.loop-k.grid c.loop-k.invariant c.loop-k.auto.k-end (omega arith)
