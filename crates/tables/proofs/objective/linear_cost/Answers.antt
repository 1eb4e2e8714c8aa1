-- `tables::objective::linear_cost` meets its contract.
use Rattle.std.proofs.Common.{◌∙◌, rules}
use Rattle.laws.proofs.Integer.{held}
use Rattle.laws.specs.Lists.{elem_z}
use Rattle.tables.proofs.Choices.{linear_held}
use Rattle.tables.proofs.Added.{sum_fits, sum_is}
use Rattle.tables.proofs.objective.linear_cost.Goals as goal

pub sum-requires-clause-fits : goal.sum-requires-clause-fits
sum-requires-clause-fits c = sum_fits _ _ c.map.ensures.source c.map.ensures.closure (λ x r q k. search rules) (linear_held c.args.n (elem_z c.args.c.now) c.args.b.now c.requires.2)

pub returns : goal.returns
returns c = held c.sum.result c.sum.type_inv ∙ sum_is _ _ c.map.ensures.source c.map.ensures.closure (λ x r q k. search rules) _ c.sum.ensures.ran
