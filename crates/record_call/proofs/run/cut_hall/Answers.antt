-- `run::cut_hall` meets its contract. The check finds this alone; it stands here so that costs that are cut elsewhere are refused by it.
use mathlib.Core.Path.{sym}
use lib.Seq.{length-take-le}
use Rattle.record_call.proofs.run.cut_hall.Goals as goal

pub slice_bounds-result-end-4 : goal.slice_bounds-result-end-4
slice_bounds-result-end-4 c = sym (length-take-le _ _ c.requires.1)
