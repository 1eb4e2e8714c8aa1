use mathlib.Core.Path.{sym, ap, ◌∙◌}
use Rattle.record_call.specs.Record.{JobAnswer}
use Rattle.record_call.proofs.Long.{read_same}
use Rattle.wagonplan.proofs.respond_to.Goals as goal

pub returns : goal.returns
returns c = let a = c.args in
    ((λ rest whole. c.respond.ensures.0 ∙ sym (ap (λ (x : JobAnswer). x.bytes) (read_same a.input.now a.len c.requires.0 c.requires.1 rest whole))), c.respond.ensures.1)
