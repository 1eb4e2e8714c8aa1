-- `block_search::check::any_above` meets its contract. Assumes nothing.
use Rattle.std.proofs.Common.{◌∙◌, rules, tests, ltb, take}
use Rattle.std.proofs.lemmas.Iterator.{YieldsList-from_slice}
use Rattle.std.proofs.lemmas.Iterator.Search.{any_from_yields_List}
use Rattle.block_search.specs.Numbers.{above_one}
use Rattle.block_search.proofs.Named.{any_taken}
use Rattle.block_search.proofs.check.any_above.Goals as goal

pub returns : goal.returns
unfolding above_one
returns c = any_from_yields_List (ltb 1) _ _ _ c.any.ensures.ran (YieldsList-from_slice (take c.args.count c.args.bytes.now) cc) (λ x b q k. search (rules, tests)) ∙ any_taken (ltb 1) c.args.count c.args.bytes.now c.requires
