-- `rounding::compute_rounded_sol` meets its contract. The best is the first least of the draws before k. Assumes nothing.
use mathlib.Core.Path.{◌≡◌, ap, ◌∙◌}
use Prim.Native.Nat.{◌-◌, ◌+◌}
use native.Mathlib.Omega.{arith}
use Rattle.tables.specs.Entries.{listed}
use Rattle.local_search.specs.Level.{Choice}
use Rattle.local_search.specs.Children.{parent_of}
use Rattle.rounding.specs.Rounding.{first_least, signs_of, draw_objective}
use Rattle.rounding.proofs.Least.{least_step}
use Rattle.laws.proofs.Integer.{held}
use Rattle.rounding.proofs.compute_rounded_sol.Goals as goal

pub loop-k-preserved : goal.loop-k-preserved
loop-k-preserved c = let a = c.args in
    let f = draw_objective a.factor.now a.rank a.m a.draws.numbers.now (listed a.table) in
    let g = signs_of a.factor.now a.rank a.m a.draws.numbers.now in
    let l = c.loop-k in
    let o = c.evaluate_draw-objective in
    let now : l.k + 1 - 1 ≡ l.k = omega arith in
    let e : parent_of c.keep_better-least.result c.keep_better-least.new.kept ≡ parent_of (f (first_least f l.k)) (g (first_least f l.k)) =
    least_step f g l.k l.auto.k l.invariant.0 l.invariant.1 (held o.result o.type_inv ∙ o.ensures.value) o.ensures.signs_after
    c.keep_better-least.ensures.least_after c.keep_better-least.ensures.kept_after in
    rw now (held c.keep_better-least.result c.keep_better-least.type_inv ∙ ap (λ (x : Choice). x.objective) e, ap (λ (x : Choice). x.signs) e)
