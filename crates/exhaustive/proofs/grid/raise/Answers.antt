-- `exhaustive::grid::raise` meets its contract. Assumes nothing.
use mathlib.Core.Path.{ap, ◌∙◌}
use native.Mathlib.Omega.{arith}
use Rattle.laws.specs.Lists.{elem_z}
use Rattle.laws.proofs.MapFirst.{fill_more, get_d_map_first}
use Rattle.exhaustive.specs.Walk.{raised_field}
use lib.IntN.{pos}
use Rattle.laws.proofs.Integer.{held}
use Rattle.exhaustive.proofs.grid.raise.Goals as goal

pub loop-i-preserved : goal.loop-i-preserved
loop-i-preserved c = fill_more (raised_field c.args.fields.now c.args.grid.now c.args.j) c.args.up.now c.loop-i.i c.loop-i.invariant (held _ c.raised_field.type_inv ∙ c.raised_field.ensures)

pub returns : goal.returns
returns c = record { raised_is = λ i h. ap (λ l. elem_z l i) c.loop-i.invariant ∙ get_d_map_first (λ k _. raised_field c.args.fields.now c.args.grid.now c.args.j k) _ c.args.up.now i (pos 0) (omega arith) (omega (arith, c.requires.0.low, c.requires.1)) }
