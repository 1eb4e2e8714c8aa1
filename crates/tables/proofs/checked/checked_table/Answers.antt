-- `tables::checked::checked_table` meets its contract: what no number refuses is lent.
use mathlib.Core.Path.{sym}
use Rattle.tables.proofs.Checks.{table_accepted}
use Rattle.tables.proofs.checked.checked_table.Goals as goal

pub entries-requires : goal.entries-requires
entries-requires c = c.requires c.if-short.false (table_accepted (sym c.in_ok-table_number.ensures)).entries
