-- `exports::ranged::wagonplan_raw_finish_ranged` meets its contract. By what the call ensures of the record that the words hold. Assumes nothing.
use Rattle.exports.proofs.RangedRunning.{ranged_made}
use Rattle.exports.proofs.ranged.wagonplan_raw_finish_ranged.Goals as goal

pub returns : goal.returns
returns c = ranged_made c.finish_ranged-finished.result c.map.result c.if-words-lt-RUN_WORDS.false c.if-res-lt-RANGED_WORDS.false (rw c.run_in.ensures at c.finish_ranged-finished.ensures) c.map.ensures.cases c.hand_words.ensures
