-- (H, c) as it is handed over once judged: that which was lent.
use Rattle.std.specs.Prelude.{◌≡◌}
use Rattle.tables.specs.Entries.{listed}
use Rattle.tables.specs.Lent.{lent_table}
use Rattle.tables.specs.declared.lent.LentHall.{LentHall}
use Rattle.tables.specs.declared.judged.JudgedHall.{JudgedHall}

abbrev pub JudgedOf : LentHall → JudgedHall → Type 0
JudgedOf l h = (h.n ≡ l.table.size) × (listed h.table ≡ lent_table l.table) × (h.c.now ≡ l.c.now)
