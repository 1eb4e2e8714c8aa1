-- `table_calls::sign_tables::floor_eighths` meets its contract.
use mathlib.Core.Path.{sym, ◌∙◌, subst}
use Prim.Native.Nat.{◌≤◌}
use Rattle.limits.specs.Limits.{most_sign_magnitude}
use Rattle.tables.specs.Table.{Table, magnitude_of}
use Rattle.tables.proofs.Checks.{table_lent}
use Rattle.table_calls.proofs.Accepting.{floor_numbered, floor_accepted}
use Rattle.table_calls.proofs.sign_tables.floor_eighths.Goals as goal

pub checked_table-requires : goal.checked_table-requires
checked_table-requires c = λ e h. table_lent (sym c.short_table-short.ensures ∙ e) h

pub floor_eighths-requires : goal.floor_eighths-requires
floor_eighths-requires c = let (lent, ok) = floor_accepted _ _ _ _ _ (sym (floor_numbered _ _ _ _ _ c.short_table-short.ensures c.in_ok-entries.ensures.number)) in subst (λ (t : Table). magnitude_of t ≤ most_sign_magnitude) (sym c.in_ok-entries.ensures.entries) ok.magnitude
