-- `ranged_finish::ranges::above` meets its contract. Assumes nothing.
use Rattle.std.proofs.Common.{◌∙◌, rules, tests, take}
use Rattle.std.proofs.lemmas.Iterator.{YieldsList-from_slice, YieldsList-from_zip}
use Rattle.std.proofs.lemmas.Iterator.Search.{any_from_yields_List}
use lib.Signed.{lt_z}
use Rattle.ranged_finish.specs.Numbers.{above}
use Rattle.ranged_finish.proofs.Found.{any_pairs}
use Rattle.ranged_finish.proofs.ranges.above.Goals as goal

pub returns : goal.returns
unfolding above
returns c =
    let a = c.args in
    any_from_yields_List (λ p. lt_z p.1 p.0) c.any.new.self _ _ c.any.ensures.ran
    (YieldsList-from_zip {s = c.zip.result} (YieldsList-from_slice (take a.count a.low.now) cc) (YieldsList-from_slice (take a.count a.high.now) cc))
    (λ x b q k. search (rules, tests))
    ∙ any_pairs (λ p. lt_z p.1 p.0) a.count a.low.now a.high.now c.requires.0 c.requires.1
