use Rattle.std.proofs.Common.{rules, arith, take, get_or, ltb, ltb-true, ltb-false}
use Rattle.std.proofs.lemmas.List.Sorted.{IsPartitionPoint-from_clause, IsPartitionedBy-ltb, IsNonDecreasingBy-from_default}
use Rattle.std.proofs.Math.Seq.{length-take-le, get_or-take}
use Rattle.sign_search.proofs.moves.row_start.Goals as goal

pub returns : goal.returns
returns c = let a = c.args in
    let n = a.table.count in
    let long = length-take-le n a.table.rows.now a.table.lent.rows_there in
    let rising = IsNonDecreasingBy-from_default (λ r. r) (take n a.table.rows.now) 0
    (λ j k le lt. rw (get_or-take n a.table.rows.now j 0 (omega arith), get_or-take n a.table.rows.now k 0 (omega arith)) (c.requires.climb j k le (omega arith))) in
    let point = IsPartitionPoint-from_clause (λ r. ltb r a.i) (take n a.table.rows.now) c.partition_point.result c.partition_point.ensures.partitioned
    (IsPartitionedBy-ltb (λ r. r) (take n a.table.rows.now) a.i rising) (λ x r q k. search rules) in
    let inside = c.partition_point.ensures.bound in
    record {
      inside = omega arith;
      behind = λ k h. omega (arith, get_or-take n a.table.rows.now k 0 (omega arith), ltb-true (get_or (take n a.table.rows.now) k 0) a.i (point.0 k 0 (omega arith) h));
      ahead = λ k h l. omega (arith, get_or-take n a.table.rows.now k 0 l, ltb-false (get_or (take n a.table.rows.now) k 0) a.i (point.1 k 0 h (omega arith)));
    }
