-- The table of entries that are lent in the first places of three slices.
use Rattle.tables.specs.Table.{Table, table_of}
use Rattle.tables.specs.declared.entries.Entries.{Entries}

abbrev pub listed : Entries → Table
listed t = table_of t.count t.rows.now t.cols.now t.values.now
