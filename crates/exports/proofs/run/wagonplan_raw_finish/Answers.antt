-- `exports::run::wagonplan_raw_finish` meets its contract. By what the call ensures of the record that the words hold. Assumes nothing.
use Rattle.exports.proofs.Running.{finish_made}
use Rattle.exports.proofs.run.wagonplan_raw_finish.Goals as goal

pub returns : goal.returns
returns c = finish_made c.finish-finished.result c.map.result c.if-words-lt-RUN_WORDS.false c.if-res-lt-RESULT_WORDS.false (rw (c.run_in.ensures, c.lent_hall-hall.ensures.costs) at c.finish-finished.ensures) c.map.ensures.cases c.hand_words.ensures
