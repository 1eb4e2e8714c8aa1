-- `tables::objective::floor_eighths` meets its contract.
use Rattle.std.proofs.Common.{◌∙◌, rules}
use Rattle.laws.proofs.Integer.{held}
use Rattle.tables.specs.Entries.{listed}
use Rattle.tables.proofs.Shares.{floor_held}
use Rattle.tables.proofs.Added.{sum_fits, sum_is}
use Rattle.tables.proofs.objective.floor_eighths.Goals as goal

pub sum-requires-clause-fits : goal.sum-requires-clause-fits
sum-requires-clause-fits c = sum_fits _ _ c.map.ensures.source c.map.ensures.closure (λ x r q k. search rules) (floor_held (listed c.args.table) c.requires)

pub returns : goal.returns
returns c = held c.sum.result c.sum.type_inv ∙ sum_is _ _ c.map.ensures.source c.map.ensures.closure (λ x r q k. search rules) _ c.sum.ensures.ran
