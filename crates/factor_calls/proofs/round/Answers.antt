-- `factor_calls::round` meets its contract. The parts that are lent have the lengths that are asked. Assumes nothing.
use mathlib.Core.Path.{sym}
use native.Mathlib.Omega.{arith}
use lib.Seq.{length-take-le}
use Rattle.tables.proofs.Checks.{table_accepted}
use Rattle.factor_calls.proofs.round.Goals as goal

pub slice_bounds-compute_rounded_sol-end-2 : goal.slice_bounds-compute_rounded_sol-end-2
slice_bounds-compute_rounded_sol-end-2 c = sym (length-take-le _ _ (omega (arith, (table_accepted c.args.qv.judged).signs)))

pub compute_rounded_sol-requires : goal.compute_rounded_sol-requires
compute_rounded_sol-requires c = let t = table_accepted c.args.qv.judged in record { table_in_bounds = (t.in_range, t.magnitude); rank_in_bounds = (c.args.qv.rows_there, c.requires.0, c.requires.1, length-take-le _ _ (omega (arith, c.args.qv.rank_few)), length-take-le _ _ (omega (arith, t.signs)), length-take-le _ _ c.requires.2) }
