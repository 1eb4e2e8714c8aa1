-- `exports::words::hand_run` meets its contract. Assumes nothing.
use Rattle.exports.proofs.Answering.{run_handed}
use Rattle.exports.proofs.words.hand_run.Goals as goal

pub returns : goal.returns
returns c = run_handed c.args.answer c.map.result c.args.words.now c.map.ensures.cases c.hand_words.ensures
