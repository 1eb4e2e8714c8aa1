-- `prepared_table::made::PreparedTable::make` meets its contract.
use Rattle.tables.specs.Entries.{listed}
use Rattle.prepared_table.proofs.MadeTables.{made}
use Rattle.prepared_table.proofs.made.PreparedTable.make.Goals as goal

pub returns : goal.returns
returns c =
    let w = c.separate_diagonal-self.ensures in
    made (listed c.args.table) c.args.m _ _ _ _ c.requires.0 c.requires.1 _ w.value w.work_rows_after w.work_cols_after w.work_values_after w.starts_after
