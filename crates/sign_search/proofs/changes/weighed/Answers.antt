use mathlib.Core.Path.{◌≡◌, ap, ◌∙◌}
use lib.IntN.{ℤ, ◌*ℤ◌}
use mir.Syntax.{w64}
use mir.Val.{to_z, of_z}
use mir.Facts.{to_z-of_z}
use Rattle.tables.specs.Table.{sign}
use Rattle.laws.proofs.Integer.{held}
use Rattle.sign_search.proofs.ChangeLaws.{weighed_fits}
use Rattle.sign_search.proofs.changes.weighed.Goals as goal

pub returns : goal.returns
returns c =
    let once : let a = c.args in to_z w64 (of_z w64 c.signed.result) ≡ a.value *ℤ sign a.x =
    held _ c.signed.type_inv ∙ c.signed.ensures ∙ ap (λ (z : ℤ). z *ℤ sign c.args.x) (to_z-of_z c.ranges.value) in
    let twice : let a = c.args in to_z w64 (of_z w64 c.signed-2.result) ≡ a.value *ℤ sign a.x *ℤ sign a.y =
    held _ c.signed-2.type_inv ∙ c.signed-2.ensures ∙ ap (λ (z : ℤ). z *ℤ sign c.args.y) (once) in
    rw (to_z-of_z c.ranges.weight, twice, to_z-of_z (weighed_fits c.args.weight c.args.value c.args.x c.args.y c.requires.0 c.requires.1))
