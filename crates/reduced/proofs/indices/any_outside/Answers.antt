-- `reduced::indices::any_outside` meets its contract. By the greatest index. Assumes nothing.
use mathlib.Core.Path.{◌∙◌, ap}
use lib.Dec.{leb}
use Rattle.reduced.proofs.Distinct.{greatest_outside, none_outside}
use Rattle.reduced.proofs.indices.any_outside.Goals as goal

pub returns-then-indices-eq0 : goal.returns-then-indices-eq0
returns-then-indices-eq0 c = none_outside c.args.size c.args.indices.now c.if-indices-eq0.true

pub returns : goal.returns
returns c = ap (leb c.args.size) (c.from.ensures ∙ c.greatest.ensures)
    ∙ greatest_outside c.args.size c.args.indices.now c.if-indices-eq0.false
