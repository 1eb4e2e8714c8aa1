-- `block_search::blocks::names` meets its contract. Assumes nothing.
use Rattle.std.proofs.Common.{◌∙◌, rules, tests, eqb}
use Rattle.std.proofs.lemmas.Iterator.{YieldsList-from_slice}
use Rattle.std.proofs.lemmas.Iterator.Search.{any_from_yields_List}
use Rattle.block_search.specs.Blocks.{named}
use Rattle.block_search.proofs.Named.{any_indexed}
use Rattle.block_search.proofs.blocks.names.Goals as goal

pub returns : goal.returns
unfolding named
returns c = any_from_yields_List (λ w. eqb w c.args.i) _ _ _ c.any.ensures.ran (YieldsList-from_slice c.args.list.now cc) (λ x b q k. search (rules, tests)) ∙ any_indexed (λ w. eqb w c.args.i) c.args.list.now
