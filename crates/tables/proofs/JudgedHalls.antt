-- What is said of a judged hall's n, table and costs holds of those that were lent: so none of the three facts can be hollowed (the edits `judged_.._hollowed`).
-- Assumes nothing.
use Prim.Native.Nat.{ℕ}
use mathlib.Core.List.{List}
use lib.IntN.{ℤ}
use Rattle.tables.specs.Table.{Table}
use Rattle.tables.specs.Entries.{listed}
use Rattle.tables.specs.Lent.{lent_table}
use Rattle.tables.specs.Judged.{JudgedOf}
use Rattle.tables.specs.declared.lent.LentHall.{LentHall}
use Rattle.tables.specs.declared.judged.JudgedHall.{JudgedHall}

pub said_of_lent : (l : LentHall) (h : JudgedHall) → JudgedOf l h → (P : ℕ → Table → List ℤ → Type 0)
    → P h.n (listed h.table) h.c.now → P l.table.size (lent_table l.table) l.c.now
said_of_lent l h of P p = rw (of.0, of.1, of.2) at p
