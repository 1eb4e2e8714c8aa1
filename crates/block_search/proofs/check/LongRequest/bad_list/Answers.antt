-- `block_search::check::LongRequest::bad_list` meets its contract. Assumes nothing.
use Rattle.std.proofs.Common.{◌∙◌}
use Rattle.block_search.proofs.Numbers.{list_judged}
use Rattle.block_search.proofs.check.LongRequest.bad_list.Goals as goal

pub returns : goal.returns
returns c = c.is_err.ensures.value ∙ list_judged c.args.self.n c.args.list.now c.args.self.wagons_few c.index_refusal.result c.index_refusal.ensures
