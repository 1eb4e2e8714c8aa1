-- `block_search::check::wagons_named` meets its contract. Assumes nothing.
use Rattle.std.proofs.Common.{◌∙◌, rules, tests}
use Rattle.std.proofs.lemmas.Iterator.{YieldsList-from_slice, YieldsList-from_map}
use Rattle.std.proofs.lemmas.Iterator.Consumers.{sum_by_from_yields_List}
use Rattle.block_search.proofs.Turns.{sizes_summed}
use Rattle.block_search.proofs.check.wagons_named.Goals as goal

pub returns : goal.returns
returns c = sum_by_from_yields_List (λ x. x) c.args.sizes.now _ _ c.sum.ensures.ran
    (YieldsList-from_map _ (λ x. x) (YieldsList-from_slice c.args.sizes.now cc) c.map.ensures.closure (λ x r q k. search (rules, tests)))
    ∙ sizes_summed c.args.sizes.now
