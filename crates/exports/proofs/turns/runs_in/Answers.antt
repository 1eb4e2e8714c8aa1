-- `exports::turns::runs_in` meets its contract. Assumes nothing.
use Prim.Native.Nat.{◌*◌}
use mathlib.Core.Path.{ap, ◌∙◌}
use lib.ListN.{replicate}
use Rattle.laws.proofs.MapFirst.{fill_none, fill_more, fill_all}
use Rattle.limits.specs.Limits.{most_runs}
use Rattle.exports.specs.Words.{run_words, run_in}
use Rattle.exports.specs.TurnWords.{runs_in}
use Rattle.std.proofs.lemmas.List.{take_rest}
use Rattle.exports.proofs.turns.runs_in.Goals as goal

pub loop-i-init : goal.loop-i-init
loop-i-init c = ap (replicate most_runs) c.no_run-runs.ensures ∙ fill_none _ _

pub loop-i-preserved : goal.loop-i-preserved
loop-i-preserved c = fill_more _ _ _ c.loop-i.invariant (c.run_in.ensures ∙ ap run_in (take_rest c.args.words.now (run_words * c.loop-i.i)))

pub returns : goal.returns
unfolding runs_in
returns c = fill_all _ _ _ _ c.loop-i.invariant c.loop-i.auto.i-end c.loop-i-test.false
