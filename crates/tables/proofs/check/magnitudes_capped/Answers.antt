-- `tables::check::magnitudes_capped` meets its contract.
use Rattle.std.proofs.Common.{ℕ, rules}
use lib.IntN.{nat_abs}
use Rattle.laws.specs.Lists.{elem_z}
use Rattle.tables.proofs.Added.{fold_callable, fold_is}
use Rattle.tables.proofs.check.magnitudes_capped.Goals as goal

pub fold-requires-clause-callable : goal.fold-requires-clause-callable
fold-requires-clause-callable c = let a = c.args in
    let f : ℕ → ℕ = λ k. nat_abs (elem_z a.values.now k) in
    fold_callable a.count f a.cap (λ b k r h q. search rules) (λ b k few below. search rules)

pub returns : goal.returns
returns c = let a = c.args in
    let f : ℕ → ℕ = λ k. nat_abs (elem_z a.values.now k) in
    fold_is a.count f a.cap (λ b k r h q. search rules) _ c.fold.ensures.ran
