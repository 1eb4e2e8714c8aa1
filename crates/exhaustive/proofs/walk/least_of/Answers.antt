-- `exhaustive::walk::least_of` meets its contract. Assumes nothing.
use mathlib.Core.Path.{refl, ap, ◌∙◌}
use Prim.Native.Nat.{ℕ}
use native.Mathlib.Omega.{arith}
use Rattle.laws.specs.Lists.{over}
use Rattle.laws.proofs.Integer.{held}
use Rattle.tables.proofs.Checks.{hall_accepted}
use Rattle.exhaustive.specs.Choices.{digits_of}
use Rattle.exhaustive.proofs.Standing.{in_grid, costs_held, grid_values, first_stands, all_walked}
use Rattle.exhaustive.proofs.walk.least_of.Goals as goal

pub lay_out-requires : goal.lay_out-requires
lay_out-requires c = (in_grid c.requires.1 (hall_accepted c.args.hall.judged), omega (arith, (hall_accepted c.args.hall.judged).magnitude), refl)

pub start_fields-requires : goal.start_fields-requires
start_fields-requires c = (c.requires.1, c.args.hall.costs_there, grid_values c.args.hall.c.now (hall_accepted c.args.hall.judged) c.requires.1 c.lay_out.ensures, costs_held c.args.hall.c.now (hall_accepted c.args.hall.judged), refl)

pub walk-found-requires : goal.walk-found-requires
walk-found-requires c = first_stands c.args.hall.c.now (hall_accepted c.args.hall.judged) c.requires.1 c.lay_out.ensures c.start_fields.ensures

pub returns : goal.returns
returns c = let w = all_walked c.args.hall.c.now (hall_accepted c.args.hall.judged) c.requires.1 c.lay_out.ensures c.start_fields.ensures c.walk-found.ensures in record { found = (held c.walk-found.result.least c.struct_told-1.given.0.1 ∙ w.0, w.2); choice = c.put_digits.ensures ∙ ap (λ (k : ℕ). over (digits_of c.args.hall.n k) c.args.b.now) w.1 }
