-- `reduced::put_lifted` meets its contract. By what its callees ensure. Assumes nothing.
use lib.Ieee.{nan}
use Rattle.reduced.proofs.Lifting.{lifted_is}
use Rattle.reduced.proofs.lift_solution.put_lifted.Goals as goal

pub returns : goal.returns
returns c = lifted_is c.args.indices.size c.args.indices.variable_map.now c.args.indices.fixed_index.now c.args.fixed_value.now c.args.reduced_solution.now c.args.lifted.now
    c.clear.ensures (c.put_each.ensures nan) (c.put_each-2.ensures nan)
