-- What is made of the table of a call and a factor of m rows (002): the objective, and the result field `dual_variables`. The float work
-- takes the table with its diagonal set aside. Definitions only.
use Rattle.std.specs.Prelude.{ℕ, List, Float}
use Rattle.factor.specs.Vectors.{added}
use Rattle.factor.specs.Multiply.{product_of}
use Rattle.tables.specs.Table.{Table}
use Rattle.prepared_table.specs.Work.{prepared_rows, prepared_cols, prepared_values, work_starts, diagonal_of}
use Rattle.maxcut_oracle.specs.Objective.{multipliers, obj_of}

-- the objective without the diagonal: the last objective of a run that is just opened
unfoldable pub work_objective : Table → ℕ → List Float → Float
work_objective t rank factor = obj_of (prepared_rows t) (prepared_cols t) (prepared_values t) factor rank

-- the table times the factor, m rows
unfoldable pub work_product : Table → ℕ → ℕ → List Float → List Float
work_product t m rank factor = product_of (prepared_cols t) (prepared_values t) (work_starts t m) factor rank m

-- the result field `dual_variables` of a run: the multipliers over the table without its diagonal, and then the diagonal added. The function
-- `dual_variables(Q, V)` of 002, over the whole table, is `whole_multipliers` (Whole.antt).
unfoldable pub dual_variables : Table → ℕ → ℕ → List Float → List Float
dual_variables t m rank factor = added (diagonal_of t m) (multipliers (work_product t m rank factor) factor rank m)
