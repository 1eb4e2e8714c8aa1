-- `exports::turns::put_runs` meets its contract. Assumes nothing.
use Prim.Native.Nat.{◌*◌}
use mathlib.Core.Path.{ap, ◌∙◌}
use native.Mathlib.Nat.{add-sub_cancel_left}
use Rattle.exports.specs.Words.{run_words, run_in}
use Rattle.exports.proofs.Turning.{put_none, put_next}
use Rattle.exports.proofs.turns.put_runs.Goals as goal

pub loop-i-init : goal.loop-i-init
loop-i-init c = put_none _ _

pub loop-i-preserved : goal.loop-i-preserved
loop-i-preserved c =
    let is = c.copy.ensures ∙ c.words_of.ensures.0 in
    put_next c.loop-i.i c.loop-i.invariant (add-sub_cancel_left (run_words * c.loop-i.i) run_words) is (ap run_in c.copy.ensures ∙ c.words_of.ensures.1)
