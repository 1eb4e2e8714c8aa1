-- How many multipliers a factor of m rows has.
-- Assumes nothing.
use Prim.Native.Nat.{ℕ}
use mathlib.Core.List.{List}
use mathlib.Core.Path.{◌≡◌, ◌∙◌}
use lib.Ieee.{Float}
use lib.ListN.{length}
use Rattle.laws.proofs.MapFirst.{length_map_first}
use Rattle.laws.proofs.Made.{length_tabulate}
use Rattle.factor.specs.Vectors.{added}
use Rattle.tables.specs.Table.{Table}
use Rattle.maxcut_oracle.specs.Objective.{row_dot, multipliers}
use Rattle.maxcut_oracle.specs.Table.{work_product, dual_variables}

module _ (t : Table) (m rank : ℕ) (factor : List Float) where
  pub length_dual : length (dual_variables t m rank factor) ≡ m
  unfolding dual_variables added multipliers
  length_dual = length_map_first _ _ _ ∙ length_tabulate (row_dot (work_product t m rank factor) factor rank) m
