-- `finalize::multipliers::multipliers` meets its contract. The arrays are cut to m rows; the multipliers stand at the front of their slice. Assumes nothing.
use Prim.Native.Nat.{◌≤◌}
use native.Mathlib.Omega.{arith}
use lib.ListN.{length}
use lib.Seq.{length-take-le}
use Rattle.tables.specs.Entries.{listed}
use Rattle.prepared_table.proofs.Preparing.{length_diagonal_of, work_front}
use Rattle.finalize.proofs.multipliers.multipliers.Goals as goal

pub multiply_out-requires : goal.multiply_out-requires
multiply_out-requires c = let sums-fit : c.args.rank ≤ length c.direction-sums.result =
    omega (arith, c.direction-sums.ensures.most_rank_value, c.requires.m_le_most_signs.2) in
    let a = c.args in record {
      in_range = (c.requires.in_range.0, c.requires.in_range.1);
      few = (c.requires.m_le_most_signs.0, c.requires.m_le_most_signs.1);
      diagonal_value = (
        rw c.diagonal-sum.ensures.out_after (work_front _ _ _ (length_diagonal_of (listed a.table) a.m)),
        length-take-le _ _ (sums-fit),
        length-take-le _ _ c.requires.m_le_most_signs.3,
      );
    }
