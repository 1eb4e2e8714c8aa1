-- `tables::mirror::has_mirror` meets its contract.
use borrow.Author.Tests.{le-ltb}
use mathlib.Core.Path.{◌∙◌}
use Rattle.tables.proofs.Checks.{absent, present}
use Rattle.tables.specs.Entries.{listed}
use Rattle.tables.proofs.mirror.has_mirror.Goals as goal

pub returns-then-j-table : goal.returns-then-j-table
returns-then-j-table c = let here = c.find_place-j.ensures in
    let a = c.args in
    c.is_mirror.ensures ∙ present (listed a.table) a.k _ _ c.requires.0 c.place_at-key.ensures here.1 here.2 c.if-j-table.true

pub returns-else-j-table : goal.returns-else-j-table
returns-else-j-table c = let here = c.find_place-j.ensures in
    let a = c.args in
    le-ltb _ _ c.if-j-table.false ∙ absent (listed a.table) a.k _ _ c.requires.0 c.place_at-key.ensures here.1 here.2 c.if-j-table.false
