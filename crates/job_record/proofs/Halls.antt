-- An accepted job's H and c pass the tables' own checks, in the record and in the slices that they were read into.
--     hall           the first number of the record's H and c is 0
--     hall_stored    and so is that of the slices that hold them
use Prim.Native.Nat.{ℕ, ◌<◌, ◌≤◌}
use mathlib.Core.Path.{◌≡◌, sym, ap, ◌∙◌}
use mathlib.Core.Bool.{false}
use mathlib.Core.List.{List}
use native.Mathlib.Omega.{arith}
use lib.ListN.{length}
use lib.Dec.{ltb}
use lib.IntN.{ℤ, pos}
use Rattle.laws.specs.Refusal.{first}
use Rattle.laws.specs.Lists.{elem, elem_z}
use Rattle.laws.proofs.Refusal.{clear, each, first_head, first_rest}
use Rattle.laws.proofs.Any.{below_none}
use Rattle.laws.proofs.Following.{passes_last, moves_on_if}
use Rattle.tables.specs.Table.{Table, table_of}
use Rattle.limits.specs.Limits.{most_wagons, most_entries, most_magnitude}
use Rattle.tables.specs.Check.{bad_order, unmirrored, hall_magnitude, hall_number}
use Rattle.tables.proofs.Checks.{size_passes}
use Rattle.job_record.specs.Fields.{wagons, entry_count, entry_at, row, column, value, entries, signed_from}
use Rattle.job_record.specs.Number.{entry_number, entries_numbers, costs_numbers, job_number}
use Rattle.job_record.specs.Values.{job_table, job_cost, Stored}
use Rattle.job_record.proofs.Same.{filled, order_same, mirror_same, magnitude_same}
use Rattle.job_record.proofs.Sections.{head}
use Rattle.job_record.proofs.Whole.{passed}

ordered : (s : List ℕ) (n count : ℕ) → first (entries_numbers s n count) ≡ 0 → bad_order n (row s) (column s) count ≡ false
unfolding entries_numbers bad_order entry_number
ordered s n count e = below_none _ count (λ k l. clear _ 13 (first_head _ _ (first_rest _ _ (each (entry_number s n) count (first_head _ _ e) k l))))

mirrored : (s : List ℕ) (n count : ℕ) → first (entries_numbers s n count) ≡ 0 → unmirrored (entries s count) ≡ false
unfolding entries_numbers
mirrored s n count e = clear _ 14 (first_head _ _ (first_rest _ _ e))

magnitude_bounded : (s : List ℕ) (n count : ℕ) → first (costs_numbers s n count) ≡ 0 → ltb most_magnitude (hall_magnitude n (entries s count) (signed_from s (entry_at count))) ≡ false
unfolding costs_numbers
magnitude_bounded s n count e = clear _ 15 (first_head _ _ (first_rest _ _ e))

none : (n : ℕ) (t : Table) (c : ℕ → ℤ) → n ≤ most_wagons → t.count ≤ most_entries → bad_order n t.row t.column t.count ≡ false → unmirrored t ≡ false
    → ltb most_magnitude (hall_magnitude n t c) ≡ false → hall_number most_wagons most_entries most_magnitude n t c ≡ 0
unfolding hall_number
none n t c few short order mirror low =
    sym (moves_on_if 13 _ _ (size_passes 0 most_wagons most_entries n t.count (omega arith) few short) (moves_on_if 14 _ _ order (moves_on_if 15 _ _ mirror (passes_last 16 _ low))))

module _ (s : List ℕ) (e : job_number s ≡ 0) where
  pub hall : hall_number most_wagons most_entries most_magnitude (wagons s) (job_table s) (job_cost s) ≡ 0
  hall =
      let p = passed s e in
      let h = head s p.head in
      none (wagons s) (job_table s) (job_cost s) h.few h.short (ordered s _ _ p.entries) (mirrored s (wagons s) _ p.entries) (magnitude_bounded s _ _ p.costs)

  pub hall_stored : {rows₀ cols₀ : List ℕ} {values₀ c₀ : List ℤ} {rows cols : List ℕ} {values c : List ℤ}
      → Stored s rows₀ cols₀ values₀ c₀ rows cols values c
      → most_entries ≤ length rows₀ → most_entries ≤ length cols₀ → most_entries ≤ length values₀ → most_wagons ≤ length c₀
      → hall_number most_wagons most_entries most_magnitude (wagons s) (table_of (entry_count s) rows cols values) (elem_z c) ≡ 0
  hall_stored {rows₀} {cols₀} {values₀} {c₀} {rows} {cols} {values} {c} stored fr fk fv fc =
      let p = passed s e in
      let h = head s p.head in
      let count = entry_count s in
      let n = wagons s in
      let r : (i : ℕ) → i < count → elem rows i ≡ row s i = λ i l. rw stored.in_rows (filled (row s) rows₀ 0 count (omega arith) i l) in
      let k : (i : ℕ) → i < count → elem cols i ≡ column s i = λ i l. rw stored.in_cols (filled (column s) cols₀ 0 count (omega arith) i l) in
      let v : (i : ℕ) → i < count → elem_z values i ≡ value s i = λ i l. rw stored.in_values (filled (value s) values₀ (pos 0) count (omega arith) i l) in
      let g : (i : ℕ) → i < n → elem_z c i ≡ job_cost s i = λ i l. rw stored.in_c (filled (job_cost s) c₀ (pos 0) n (omega arith) i l) in
      none n (table_of count rows cols values) (elem_z c) h.few h.short
      (order_same _ _ _ _ count r k n ∙ ordered s n count p.entries)
      (mirror_same _ _ _ _ count r k v ∙ mirrored s n count p.entries)
      (ap (ltb most_magnitude) (magnitude_same n count v g) ∙ magnitude_bounded s n count p.costs)
