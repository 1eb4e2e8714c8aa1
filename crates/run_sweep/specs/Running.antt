-- What the inner functions of a sweep ask of a record, and of the slices they are lent.
use Rattle.std.specs.Prelude.{ℕ, ◌*◌, ◌<◌, ◌≤◌, ◌≡◌, false, List, Float}
use Rattle.limits.specs.Limits.{most_signs}
use Rattle.factor.specs.Shapes.{Shaped, ObjFits}
use Rattle.run_record.specs.declared.Run.{Run}
use Rattle.run_record.specs.Numbers.{is_stopped}
use Rattle.run_sweep.specs.Work.{Work}

-- an open record has a sweep left; a sweep has left at most all rows standing
pub record Running (run : Run) : Type 0 where
  pub sweep_left : is_stopped run.stage ≡ false → run.sweeps < run.most
  pub standing_few : run.standing ≤ run.size * run.sweeps

-- one more sweep, which leaves so many rows standing, can be added to the total
pub record Countable (run : Run) (left : ℕ) : Type 0 where
  pub standing_before : run.standing ≤ run.size * run.sweeps
  pub left_few : left ≤ run.size
  pub signs_few : run.size ≤ most_signs

-- the table and a factor of m rows of rank numbers, with scratch of its length
pub record Sweepable (w : Work) (m rank : ℕ) (factor : List Float) (product moved dual : ℕ) : Type 0 where
  pub shaped : Shaped w.cols w.values w.starts factor m rank
  pub fits : ObjFits w.rows w.cols w.values rank (m * rank)
  pub product_is : product ≡ m * rank
  pub moved_is : moved ≡ m * rank
  pub dual_is : dual ≡ m
  pub some : rank ≤ m * rank
  pub few : m ≤ most_signs
