use Rattle.pinned.specs.Pinned.{held_term}
use Rattle.pinned.proofs.Steps.{constant_sums}
use Rattle.std.proofs.Common.{◌∙◌, rules}
use Rattle.laws.proofs.Integer.{held}
use Rattle.laws.specs.Lists.{elem_z}
use Rattle.tables.specs.Cost.{choice_at}
use Rattle.tables.proofs.Added.{sum_fits, sum_is}
use Rattle.pinned.proofs.reduce.held_cost.Goals as goal

pub sum-requires-clause-fits : goal.sum-requires-clause-fits
sum-requires-clause-fits c = let a = c.args in
    let term = held_term (elem_z a.c.now) (elem_z a.sums.now) (choice_at a.held.now) in
    sum_fits a.n term c.map.ensures.source c.map.ensures.closure (λ x r q k. search rules) (constant_sums a.n (elem_z a.c.now) (elem_z a.sums.now) a.held.now c.requires.1 c.requires.2)

pub returns : goal.returns
returns c = let a = c.args in
    let term = held_term (elem_z a.c.now) (elem_z a.sums.now) (choice_at a.held.now) in
    held c.sum.result c.sum.type_inv ∙ sum_is a.n term c.map.ensures.source c.map.ensures.closure (λ x r q k. search rules) _ c.sum.ensures.ran
