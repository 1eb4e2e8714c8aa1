-- `exports::turns::turn_words` meets its contract, by what `turn` promises of the records that the words hold. Assumes nothing.
use mathlib.Core.Path.{sym}
use Rattle.exports.proofs.Turning.{ample, turn_made}
use Rattle.exports.proofs.turns.turn_words.Goals as goal

pub runs_in-runs-requires : goal.runs_in-runs-requires
runs_in-runs-requires c = let a = ample _ _ _ _ (sym c.in_ok-early_number.ensures) in (a.few, a.words_there)

pub halls_in-halls-requires : goal.halls_in-halls-requires
halls_in-halls-requires c = let a = ample _ _ _ _ (sym c.in_ok-early_number.ensures) in (a.few, a.sizes_there)

pub put_runs-requires : goal.put_runs-requires
put_runs-requires c = let a = ample _ _ _ _ (sym c.in_ok-early_number.ensures) in (a.few, a.words_there)

pub returns : goal.returns
returns c = turn_made _ _ _ _ _ _ _ _ _ (sym c.in_ok-early_number.ensures) (rw (c.runs_in-runs.ensures, c.halls_in-halls.ensures) at c.in_ok-after.ensures) c.put_runs.ensures.0 c.put_runs.ensures.1
