-- `ranged_finish::figures::floor_of` meets its contract, on the sign table that was made. Assumes nothing.
use Prim.Native.Nat.{suc}
use mathlib.Core.Path.{◌∙◌, ap}
use Rattle.laws.proofs.Integer.{held}
use Rattle.limits.specs.Limits.{most_signs, most_sign_entries, most_sign_magnitude}
use Rattle.tables.specs.Check.{Accepted}
use Rattle.tables.specs.Entries.{listed}
use Rattle.tables.proofs.Checks.{hall_accepted}
use Rattle.tables.specs.Table.{floor_of}
use Rattle.sign_table.proofs.MadeTables.{made_accepted}
use Rattle.finalize.specs.Finalize.{floor_eighths}
use Rattle.ranged_finish.proofs.figures.floor_of.Goals as goal

pub floor_eighths-requires : goal.floor_eighths-requires
floor_eighths-requires c =
    let made : Accepted most_signs most_sign_entries most_sign_magnitude (suc c.args.hall.n) (listed c.entries.result) = rw c.entries.ensures (made_accepted c.make.ensures (hall_accepted c.args.hall.judged)) in
    made.magnitude

pub returns : goal.returns
unfolding floor_eighths
returns c = held c.floor_eighths.result c.floor_eighths.type_inv ∙ c.floor_eighths.ensures ∙ ap floor_of (c.entries.ensures ∙ c.make.ensures.is)
