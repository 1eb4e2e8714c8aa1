use native.Mathlib.Omega.{arith}
use Rattle.job_record.proofs.Entries.{fits, refused_14, refused_11, refused_15, accepted, placed}
use Rattle.job_record.proofs.number.entries_number.Goals as goal

pub returns-then-bad_order : goal.returns-then-bad_order
returns-then-bad_order c = let e = c.read_entries.ensures in refused_14 _ _ _ _ c.whole_entries-whole.ensures _ _ _ (fits _ _ _ _ c.whole_entries-whole.ensures.0 c.requires) e.rows_after e.cols_after e.values_after c.bad_order.ensures c.if-bad_order.true

pub returns-then-whole-count : goal.returns-then-whole-count
returns-then-whole-count c = let e = c.read_entries.ensures in refused_11 _ _ _ _ c.whole_entries-whole.ensures _ _ _ (fits _ _ _ _ c.whole_entries-whole.ensures.0 c.requires) e.rows_after e.cols_after e.values_after c.bad_order.ensures c.if-bad_order.false c.if-whole-count.true

pub unmirrored-requires : goal.unmirrored-requires
unmirrored-requires c = let e = c.read_entries.ensures in placed _ _ _ _ c.whole_entries-whole.ensures _ _ _ (fits _ _ _ _ c.whole_entries-whole.ensures.0 c.requires) e.rows_after e.cols_after e.values_after c.bad_order.ensures c.if-bad_order.false c.if-whole-count.false (omega arith)

pub returns-then-unmirrored : goal.returns-then-unmirrored
returns-then-unmirrored c = let e = c.read_entries.ensures in refused_15 _ _ _ _ c.whole_entries-whole.ensures _ _ _ (fits _ _ _ _ c.whole_entries-whole.ensures.0 c.requires) e.rows_after e.cols_after e.values_after c.bad_order.ensures c.if-bad_order.false c.if-whole-count.false c.unmirrored.ensures c.if-unmirrored.true

pub returns : goal.returns
returns c = let e = c.read_entries.ensures in accepted _ _ _ _ c.whole_entries-whole.ensures _ _ _ (fits _ _ _ _ c.whole_entries-whole.ensures.0 c.requires) e.rows_after e.cols_after e.values_after c.bad_order.ensures c.if-bad_order.false c.if-whole-count.false c.unmirrored.ensures c.if-unmirrored.false
