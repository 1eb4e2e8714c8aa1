-- `run_limits::rank_meant` meets its contract. By the test. Assumes nothing.
use mathlib.Core.Path.{sym, ◌∙◌}
use Rattle.run_limits.proofs.Ranks.{default_low, meant_given, meant_default}
use Rattle.run_limits.proofs.rank_meant.Goals as goal

pub returns-then-rank-eq0 : goal.returns-then-rank-eq0
returns-then-rank-eq0 c = let zero-given = c.if-rank-eq0.true in
    let default-is = c.from.ensures ∙ c.default_sdp_rank.ensures in
    (default-is ∙ sym (meant_default c.args.m zero-given), rw default-is (default_low c.args.m (c.requires.0 zero-given)))

pub returns : goal.returns
returns c = (sym (meant_given c.args.m c.args.rank c.if-rank-eq0.false), c.requires.1)
