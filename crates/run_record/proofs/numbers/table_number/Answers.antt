-- `run_record::numbers::table_number` meets its contract. Tried as `using` on the function, where the search leaves it. Assumes nothing.
use Rattle.run_record.proofs.Holds.{table_lent, costs_lent}
use Rattle.run_record.proofs.numbers.table_number.Goals as goal

pub hall_number-requires : goal.hall_number-requires
hall_number-requires c = (table_lent _ c.requires, costs_lent _ c.requires)
