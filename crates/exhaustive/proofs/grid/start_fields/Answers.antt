-- `exhaustive::grid::start_fields` meets its contract. Assumes nothing.
use mathlib.Core.Path.{ap, ◌∙◌}
use native.Mathlib.Omega.{arith}
use Rattle.laws.specs.Lists.{elem_z}
use Rattle.laws.proofs.MapFirst.{fill_more, get_d_map_first}
use Rattle.exhaustive.specs.Walk.{start_field}
use lib.IntN.{pos}
use Rattle.laws.proofs.Integer.{held}
use Rattle.exhaustive.proofs.grid.start_fields.Goals as goal

pub loop-j-preserved : goal.loop-j-preserved
loop-j-preserved c = fill_more (start_field c.args.grid.now c.args.c.now) c.args.fields.now c.loop-j.j c.loop-j.invariant (held _ c.start_field.type_inv ∙ c.start_field.ensures)

pub returns : goal.returns
returns c = record { start_is = λ i h. ap (λ l. elem_z l i) c.loop-j.invariant ∙ get_d_map_first (λ k _. start_field c.args.grid.now c.args.c.now k) _ c.args.fields.now i (pos 0) (omega arith) (omega (arith, c.requires.0, c.requires.4)) }
