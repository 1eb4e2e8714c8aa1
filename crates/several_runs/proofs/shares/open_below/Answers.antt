-- `several_runs::shares::open_below` meets its contract: `filter` keeps the open ones of the first runs. Assumes nothing.
use Rattle.std.proofs.Common.{◌∙◌, rules, tests, take}
use native.Mathlib.Omega.{arith}
use Rattle.std.proofs.lemmas.Iterator.{YieldsList-from_slice}
use Rattle.std.proofs.lemmas.Iterator.Consumers.{YieldsList-from_filter, count_from_yields_List}
use Rattle.several_runs.proofs.Counted.{is_open, open_counted}
use Rattle.several_runs.proofs.shares.open_below.Goals as goal

pub returns : goal.returns
returns c =
    let a = c.args in
    count_from_yields_List c.filter.result _ c.count.ensures.ran
    (YieldsList-from_filter _ is_open (YieldsList-from_slice (take a.end a.runs) cc) c.filter.ensures.closure (λ x b q k. search (rules, tests)))
    ∙ open_counted a.end a.runs (omega arith)
