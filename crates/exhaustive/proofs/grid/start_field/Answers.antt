-- `exhaustive::grid::start_field` meets its contract. Assumes nothing.
use Rattle.exhaustive.proofs.Terms.{start_is}
use Rattle.laws.specs.Lists.{elem_z}
use Prim.Native.Nat.{◌+◌, ◌*◌}
use Rattle.exhaustive.proofs.grid.start_field.Goals as goal

pub returns : goal.returns
returns c = start_is (elem_z c.args.grid.now (c.args.j * 16 + c.args.j)) (elem_z c.args.c.now c.args.j) (c.requires.2.small c.args.j c.args.j c.requires.0 c.requires.0) c.requires.3
