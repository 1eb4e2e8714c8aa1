use Rattle.pinned.proofs.Steps.{own_fits}
use Rattle.laws.proofs.Integer.{held}
use Rattle.laws.specs.Lists.{elem_z}
use mir.Facts.{to_z-of_z}
use mathlib.Core.Path.{◌∙◌}
use Rattle.pinned.proofs.reduce.held_term.Goals as goal

pub returns : goal.returns
returns c = let q = elem_z c.args.sums.now c.args.i in
    let l = elem_z c.args.c.now c.args.i in
    let f = own_fits q l c.requires.2 in
    rw (held _ c.chosen_once.type_inv) (c.chosen_once.ensures ∙ rw (held q c.chosen_once-arg-1.given, held l c.chosen_once-arg-2-1.given, to_z-of_z f.sums_fit, to_z-of_z f.cost_fits, to_z-of_z f.both_fit))
