use mathlib.Core.Path.{ap}
use native.Mathlib.Omega.{arith}
use Rattle.tables.specs.CostTable.{CostTable}
use Rattle.record_call.proofs.Freed.{job_hall}
use Rattle.record_call.proofs.run.finish_pinned.Goals as goal

pub finish_within-requires-else-hall-le-FEW_ENTRIES : goal.finish_within-requires-else-hall-le-FEW_ENTRIES
finish_within-requires-else-hall-le-FEW_ENTRIES c =
    let count = ap (λ (t : CostTable). t.count) c.args.pinned.own.own.costs_are in
    (c.requires.0, c.requires.1, omega (arith, count, (job_hall c.args.pinned.own.record.bytes.now c.args.pinned.own.own.accepted).entries), omega arith)
