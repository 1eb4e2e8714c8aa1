-- `ranged_finish::finish::finish_ranged` meets its contract: by the number, and by `finish_ranged_accepted`. Assumes nothing.
use mathlib.Core.Path.{sym}
use Rattle.ranged_finish.specs.Ranged.{ranged_of}
use Rattle.ranged_finish.proofs.Theorems.{ranged_finishes}
use Rattle.ranged_finish.proofs.finish.finish_ranged.Goals as goal

pub returns : goal.returns
returns c = let a = c.args in ranged_finishes a.run (ranged_of a.ranged) a.width a.draws.count a.draws.numbers.now a.factor.now a.b.now a.dual_variables.now a.workspace.now c.finish_ranged_accepted.result (sym c.in_ok-ranged_finish_number.ensures) c.finish_ranged_accepted.ensures.finished c.finish_ranged_accepted.ensures.figures
