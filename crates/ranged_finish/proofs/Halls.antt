-- Where no number applies to a ranged table both of its ends are accepted halls, and the low one is nowhere above the high one. Assumes nothing.
use mathlib.Core.Path.{◌≡◌}
use mathlib.Core.Bool.{false, ◌||◌}
use mathlib.Core.List.{List}
use Prim.Native.Nat.{ℕ, ◌<◌, ◌≤◌}
use native.Mathlib.Nat.{le-max_left, le-max_right}
use native.Mathlib.Omega.{arith}
use borrow.Author.Tests.{ltb-false}
use lib.Dec.{ltb}
use lib.IntN.{ℤ, nat_abs}
use lib.Signed.{◌≤ℤ◌, lt_z}
use Rattle.laws.specs.Lists.{elem, elem_z}
use Rattle.std.proofs.lemmas.Bool.{or_parts}
use Rattle.laws.proofs.Any.{below_false}
use Rattle.std.proofs.lemmas.Int.{ints}
use Rattle.laws.proofs.Refusal.{first_head, first_rest, clear}
use Rattle.laws.proofs.Totals.{total_mono}
use Rattle.limits.specs.Limits.{most_wagons, most_entries, most_magnitude}
use Rattle.tables.specs.Table.{value_at}
use Rattle.tables.specs.Check.{bad_size, bad_order, unmirrored}
use Rattle.tables.proofs.Checks.{size_parts, order_range, order_rising, mirror_mirrored, hall_passes}
use Rattle.tables.specs.CostTable.{quadratic, linear}
use Rattle.run_record.specs.Numbers.{cost_table_number}
use Rattle.run_contract.proofs.Accepting.{HallOf}
use Rattle.ranged_finish.specs.Ranged.{RangedTable, with_values, low_of, high_of}
use Rattle.ranged_finish.specs.Numbers.{above, larger, ranged_magnitude, ranged_number}
use Rattle.ranged_finish.proofs.Mono.{value_mono}

-- no low end above its high one
pub not_above : (k : ℕ) (low high : ℕ → ℤ) → above k low high ≡ false → (i : ℕ) → i < k → low i ≤ℤ high i
unfolding above
not_above k low high e i h = omega (arith, ints, below_false (λ j. lt_z (high j) (low j)) k e i h)

module _ (t : RangedTable) (ok : ranged_number t ≡ 0) where
  -- the six tests
  record Passed : Type 0 where
    size_test : bad_size 0 most_wagons most_entries t.n t.count ≡ false
    order_test : bad_order t.n (elem t.rows) (elem t.cols) t.count ≡ false
    entry_test : above t.count (elem_z t.low) (elem_z t.high) ≡ false
    mirror_test : (unmirrored (quadratic (low_of t)) || unmirrored (quadratic (high_of t))) ≡ false
    cost_test : above t.n (elem_z t.low_c) (elem_z t.high_c) ≡ false
    magnitude_test : ltb most_magnitude (ranged_magnitude t) ≡ false

  tests : Passed
  unfolding ranged_number
  tests =
      let ok₁ = first_rest _ _ ok in
      let ok₂ = first_rest _ _ ok₁ in
      let ok₃ = first_rest _ _ ok₂ in
      let ok₄ = first_rest _ _ ok₃ in
      let ok₅ = first_rest _ _ ok₄ in
      record {
        size_test = clear _ 12 (first_head _ _ ok);
        order_test = clear _ 13 (first_head _ _ ok₁);
        entry_test = clear _ 22 (first_head _ _ ok₂);
        mirror_test = clear _ 14 (first_head _ _ ok₃);
        cost_test = clear _ 22 (first_head _ _ ok₄);
        magnitude_test = clear _ 15 (first_head _ _ ok₅);
      }

  -- values and costs at these places, mirrored and each no larger than its range
  hall : (values c : List ℤ) → unmirrored (quadratic (with_values t values c)) ≡ false
      → ((k : ℕ) → nat_abs (elem_z values k) ≤ larger (elem_z t.low k) (elem_z t.high k)) → ((i : ℕ) → nat_abs (elem_z c i) ≤ larger (elem_z t.low_c i) (elem_z t.high_c i))
      → HallOf (with_values t values c)
  hall values c mirrors entries costs =
      let s = size_parts _ _ _ _ _ tests.size_test in
      let a = total_mono t.count (λ k. nat_abs (elem_z values k)) (λ k. larger (elem_z t.low k) (elem_z t.high k)) (λ k l. entries k) in
      let b = total_mono t.n (λ i. nat_abs (elem_z c i)) (λ i. larger (elem_z t.low_c i) (elem_z t.high_c i)) (λ i l. costs i) in
      record {
        wagons = s.1;
        entries = s.2;
        in_range = order_range t.n (quadratic (with_values t values c)) tests.order_test;
        rising = order_rising t.n (quadratic (with_values t values c)) tests.order_test;
        mirrored = mirror_mirrored (quadratic (with_values t values c)) mirrors;
        magnitude = omega (arith, a, b, ltb-false most_magnitude (ranged_magnitude t) tests.magnitude_test);
      }

  pub low_hall : HallOf (low_of t)
  low_hall = hall t.low t.low_c (or_parts _ _ tests.mirror_test).0 (λ k. le-max_left _ _) (λ i. le-max_left _ _)

  pub high_hall : HallOf (high_of t)
  high_hall =
      hall t.high t.high_c (or_parts (unmirrored (quadratic (low_of t))) (unmirrored (quadratic (high_of t))) tests.mirror_test).1 (λ k. le-max_right _ _) (λ i. le-max_right _ _)

  -- neither end is refused by a number of its own
  pub low_number : cost_table_number (low_of t) ≡ 0
  low_number = hall_passes low_hall

  pub high_number : cost_table_number (high_of t) ≡ 0
  high_number = hall_passes high_hall

  pub entry_le : (k : ℕ) → k < t.count → elem_z t.low k ≤ℤ elem_z t.high k
  entry_le = not_above t.count (elem_z t.low) (elem_z t.high) tests.entry_test

  pub value_le : (i j : ℕ) → value_at (quadratic (low_of t)) i j ≤ℤ value_at (quadratic (high_of t)) i j
  value_le i j = value_mono t.count (elem t.rows) (elem t.cols) (elem_z t.low) (elem_z t.high) entry_le i j

  pub cost_le : (i : ℕ) → i < t.n → linear (low_of t) i ≤ℤ linear (high_of t) i
  cost_le = not_above t.n (elem_z t.low_c) (elem_z t.high_c) tests.cost_test
