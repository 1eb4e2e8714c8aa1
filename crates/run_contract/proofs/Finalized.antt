-- The figures of 01's definitions are those of a finish, over the fronts of any slices. Assumes nothing.
use Prim.Native.Nat.{ℕ}
use mathlib.Core.Path.{refl}
use mathlib.Core.List.{List}
use lib.IntN.{ℤ}
use lib.Ieee.{Float}
use Rattle.laws.specs.Lists.{over}
use Rattle.tables.specs.Table.{Table}
use Rattle.finalize.specs.Finalize.{diagonal_total, float_bound, floor_eighths, multipliers_of, rounded_cost, searched_choice, searched_cost, searched_rounds}
use Rattle.finalize.specs.Clauses.{Finalizes}

pub finalized : (n : ℕ) (h : Table) (c : ℕ → ℤ) (rank : ℕ) (factor draws : List Float) (draw_count width : ℕ) (b : List ℕ) (dual : List Float)
    → Finalizes n h c rank width draw_count draws factor b (over (searched_choice n h c rank factor draws draw_count width) b) dual (over (multipliers_of n h c rank factor) dual)
    (diagonal_total n h c) (float_bound n h c) (floor_eighths n h c)
    (rounded_cost n h c rank factor draws draw_count) (searched_cost n h c rank factor draws draw_count width) (searched_rounds n h c rank factor draws draw_count width)
finalized n h c rank factor draws draw_count width b dual =
    record {
      diagonal_is = refl;
      bound_is = refl;
      floor_is = refl;
      rounded_is = refl;
      cost_is = refl;
      rounds_are = refl;
      choice_is = refl;
      multipliers_are = refl;
    }
