-- The lengths of the slices that a finish is lent, as the code has them.
use Rattle.run_record.specs.declared.lengths.FinishSlices.{FinishSlices}
use Rattle.run_record.specs.Numbers.{FinishLengths}

abbrev pub lengths_of : FinishSlices → FinishLengths
lengths_of lent = record { draws = lent.draws; factor = lent.factor; b = lent.b; dual = lent.dual; workspace = lent.workspace }
