-- `finalize::multipliers::multiply_out` meets its contract, on the prepared table that was made. Assumes nothing.
use mathlib.Core.Path.{◌∙◌, ap}
use lib.ListN.{length}
use Rattle.tables.specs.Entries.{listed}
use Rattle.prepared_table.proofs.Preparing.{length_diagonal_of}
use Rattle.prepared_table.proofs.MadeTables.{made_shaped}
use Rattle.maxcut_oracle.specs.Table.{work_product, dual_variables}
use Rattle.finalize.proofs.multipliers.multiply_out.Goals as goal

pub dual_variables-requires : goal.dual_variables-requires
dual_variables-requires c =
    let a = c.args in
    let w = c.table.ensures in
    record {
      shaped = rw (w.cols_value, w.values_value, w.starts_value) (made_shaped c.make.ensures a.rank c.requires.in_range.0 a.factor.now c.requires.in_range.1);
      diagonal_len = (ap length c.requires.diagonal_value.0 ∙ length_diagonal_of (listed a.table) a.m, c.requires.diagonal_value.1, c.requires.diagonal_value.2);
    }

pub returns : goal.returns
unfolding dual_variables work_product
returns c =
    let w = c.table.ensures in
    let k = c.make.ensures in
    rw (w.cols_value ∙ k.cols_are, w.values_value ∙ k.values_are, w.starts_value ∙ k.starts_are, c.requires.diagonal_value.0) at c.dual_variables.ensures
