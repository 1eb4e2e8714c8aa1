-- `finalize::finalize_signs` meets its contract. By what its callees ensure. Assumes nothing.
use native.Mathlib.Numerals.{add-one}
use Rattle.tables.proofs.Checks.{table_accepted}
use Rattle.finalize.proofs.finalize_signs.Goals as goal

pub multipliers-diagonal_sum-requires : goal.multipliers-diagonal_sum-requires
multipliers-diagonal_sum-requires c = let f = c.args.finish in
    let t = table_accepted f.judged in
    rw (add-one f.n)
    (record { in_range = (t.in_range, f.rows_are); m_le_most_signs = (t.signs, t.entries, f.rank_few, c.requires.1) })
