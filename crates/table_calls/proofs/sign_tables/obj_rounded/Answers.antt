-- `table_calls::sign_tables::obj_rounded` meets its contract.
use mathlib.Core.Path.{sym, ◌∙◌, subst}
use Prim.Native.Nat.{◌≤◌}
use lib.ListN.{length}
use Rattle.limits.specs.Limits.{most_sign_magnitude}
use Rattle.tables.specs.Table.{Table, InRange, magnitude_of}
use Rattle.table_calls.proofs.Accepting.{objective_lent, objective_numbered, objective_accepted}
use Rattle.table_calls.proofs.sign_tables.obj_rounded.Goals as goal

pub checked_table-requires : goal.checked_table-requires
checked_table-requires c = λ e h. objective_lent _ _ _ _ _ _ (sym c.objective_short-short.ensures ∙ e) h

pub obj_rounded-requires : goal.obj_rounded-requires
obj_rounded-requires c = let given = (objective_accepted _ _ _ _ _ _ (sym (objective_numbered _ _ _ _ _ _ c.objective_short-short.ensures c.in_ok-entries.ensures.number))) in subst (λ (t : Table). InRange (length c.args.signs.now) t × (magnitude_of t ≤ most_sign_magnitude)) (sym c.in_ok-entries.ensures.entries) (given.1, given.2)
