-- `ranged_finish::ranges::ranges_capped` meets its contract. Assumes nothing.
use Rattle.std.proofs.Common.{ℕ, rules}
use Rattle.laws.specs.Lists.{elem_z}
use Rattle.tables.proofs.Added.{fold_callable, fold_is}
use Rattle.ranged_finish.specs.Numbers.{larger}
use Rattle.ranged_finish.proofs.ranges.ranges_capped.Goals as goal

pub fold-requires-clause-callable : goal.fold-requires-clause-callable
fold-requires-clause-callable c = let a = c.args in
    let f : ℕ → ℕ = λ k. larger (elem_z a.low.now k) (elem_z a.high.now k) in
    fold_callable a.count f a.cap (λ b k r h q. search rules) (λ b k few below. search rules)

pub returns : goal.returns
returns c = let a = c.args in
    let f : ℕ → ℕ = λ k. larger (elem_z a.low.now k) (elem_z a.high.now k) in
    fold_is a.count f a.cap (λ b k r h q. search rules) _ c.fold.ensures.ran
