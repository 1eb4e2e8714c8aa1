-- What an accepted `from_principal_submatrix` leaves in its result slices: a table in range and in rising order, whose entries are exactly those of
-- the given table at mapped places, under their new indices.
-- Assumes nothing.
use mathlib.Core.Path.{◌≡◌, refl, sym, ap, ◌∙◌}
use mathlib.Core.List.{List}
use Prim.Native.Nat.{ℕ, suc, ◌<◌, ◌≤◌}
use native.Mathlib.Omega.{arith}
use lib.ListN.{length, get_or}
use lib.IntN.{ℤ}
use Rattle.laws.specs.Lists.{elem, elem_z}
use Rattle.tables.specs.Table.{Table, InRange, Rising}
use Rattle.tables.specs.Stored.{rows_of, cols_of, values_of}
use Rattle.tables.proofs.Mirrors.{value_here, stored_true, stored_here}
use Rattle.tables.proofs.Kept.{place_at, places_have, row_listed, col_listed, value_listed, places_rising}
use Rattle.tables.proofs.Slices.{Same, written_same}
use Rattle.limits.specs.Limits.{most_sign_entries, most_size}
use Rattle.std.specs.Prelude.{Ok}
use Rattle.reduced.specs.Submatrix.{Slices, table_in, kept_in, value_in, reduced_places, Reduces, Acceptable, Stands}
use Rattle.reduced.proofs.Numbers.{submatrix_accepted, input_reducible}
use Rattle.reduced.proofs.Entries.{reduced_few}

-- the kept places of the reduced table, and what the table they come from holds there
module _ {t : Table} (ri : Rising t) (map : List ℕ) where
  -- an entry at a kept place is one of the table
  listed_from : (k : ℕ) → k < length (reduced_places t map) → {i j : ℕ} → (get_or (reduced_places t map) k (0, 0)).0 ≡ i → (get_or (reduced_places t map) k (0, 0)).1 ≡ j
      → (i < length map) × (j < length map) × Stands t (elem map i) (elem map j) (value_in t map i j)
  unfolding reduced_places
  listed_from k h a b =
      let (low, high, e) = place_at (kept_in t map) (length map) (length map) k h in
      let (l, c, r, s) = stored_true t _ _ e in (
        rw a at low,
        rw b at high,
        record {
          entry = l;
          inside = c;
          row_is = r ∙ ap (elem map) a;
          column_is = s ∙ ap (elem map) b;
          value_is = sym (value_here ri _ _ l c (r ∙ ap (elem map) a) (s ∙ ap (elem map) b));
        },
      )

  -- and each entry of the table at a mapped place is at a kept one
  listed_to : {i j : ℕ} {v : ℤ} → i < length map → j < length map → Stands t (elem map i) (elem map j) v
      → (k : ℕ) × (k < length (reduced_places t map)) × (get_or (reduced_places t map) k (0, 0) ≡ (i, j)) × (value_in t map i j ≡ v)
  unfolding reduced_places
  listed_to {i} {j} a b s =
      let (k, h, e) = places_have (kept_in t map) (length map) (length map) i j a b (stored_here t (elem map i) (elem map j) s.entry s.inside s.row_is s.column_is) in
      (k, h, e, value_here ri (elem map i) (elem map j) s.entry s.inside s.row_is s.column_is ∙ s.value_is)

module _ {size count : ℕ} {from : Slices} {map fixed : List ℕ} {to : Slices} {n : ℕ} {to' : Slices} (call : Reduces size count from map fixed to (Ok n) to') where
  ok : Acceptable most_size most_sign_entries size count from map fixed to
  ok = submatrix_accepted (sym call.numbered)

  many : n ≡ length (reduced_places (table_in count from) map)
  many = cc ((call.accepted refl).0)

  few : length (reduced_places (table_in count from) map) ≤ count
  few = reduced_few (input_reducible ok.input)

  same : Same (length (reduced_places (table_in count from) map)) (elem to'.rows) (elem (rows_of (reduced_places (table_in count from) map)))
      (elem to'.cols) (elem (cols_of (reduced_places (table_in count from) map)))
      (elem_z to'.values) (elem_z (values_of (value_in (table_in count from) map) (reduced_places (table_in count from) map)))
  same =
      written_same (call.accepted refl).1
      (record {
        rows_room = omega (arith, few, ok.to_lent.rows_there);
        cols_room = omega (arith, few, ok.to_lent.cols_there);
        values_room = omega (arith, few, ok.to_lent.values_there);
      })

  inside : (k : ℕ) → k < n → k < length (reduced_places (table_in count from) map)
  inside k h = omega (arith, many)

  row_at : (k : ℕ) → k < n → elem to'.rows k ≡ (get_or (reduced_places (table_in count from) map) k (0, 0)).0
  row_at k h = same.rows k (inside k h) ∙ row_listed (reduced_places (table_in count from) map) k

  column_at : (k : ℕ) → k < n → elem to'.cols k ≡ (get_or (reduced_places (table_in count from) map) k (0, 0)).1
  column_at k h = same.cols k (inside k h) ∙ col_listed (reduced_places (table_in count from) map) k

  value_at_lem : (k : ℕ) → k < n → elem_z to'.values k ≡ value_in (table_in count from) map (get_or (reduced_places (table_in count from) map) k (0, 0)).0 (get_or (reduced_places (table_in count from) map) k (0, 0)).1
  value_at_lem k h = same.values k (inside k h) ∙ value_listed (value_in (table_in count from) map) (reduced_places (table_in count from) map) k (inside k h)

  -- an entry of the result is one of the table, at the mapped place
  pub entry_from : (i j : ℕ) (v : ℤ) → Stands (table_in n to') i j v → (i < length map) × (j < length map) × Stands (table_in count from) (elem map i) (elem map j) v
  entry_from i j v s =
      let a = sym (row_at s.entry s.inside) ∙ s.row_is in
      let b = sym (column_at s.entry s.inside) ∙ s.column_is in
      let (low, high, st) = listed_from ok.input.rising map s.entry (inside s.entry s.inside) a b in
      let v-is : value_in (table_in count from) map i j ≡ v = rw (a, b) at (sym (value_at_lem s.entry s.inside) ∙ s.value_is) in
      (low, high, rw v-is at st)

  -- and each entry of the table at a mapped place is in the result
  pub entry_to : (i j : ℕ) (v : ℤ) → i < length map → j < length map → Stands (table_in count from) (elem map i) (elem map j) v → Stands (table_in n to') i j v
  entry_to i j v a b s =
      let (k, h, e, f) = listed_to ok.input.rising map a b s in
      let h' : k < n = omega (arith, many) in
      record {
        entry = k;
        inside = h';
        row_is = row_at k h' ∙ ap (λ p. p.0) e;
        column_is = column_at k h' ∙ ap (λ p. p.1) e;
        value_is = value_at_lem k h' ∙ ap (λ p. value_in (table_in count from) map p.0 p.1) e ∙ f;
      }

  -- the result is in range of the map and in rising order of the new indices
  pub result_range : InRange (length map) (table_in n to')
  unfolding reduced_places
  result_range =
      record {
        rows_in = λ k h. rw (row_at k h) (place_at (kept_in (table_in count from) map) (length map) (length map) k (inside k h)).0;
        cols_in = λ k h. rw (column_at k h) (place_at (kept_in (table_in count from) map) (length map) (length map) k (inside k h)).1;
      }

  pub result_rising : Rising (table_in n to')
  unfolding reduced_places
  result_rising = record {
    rise = λ k h.
        let h' : k < length (reduced_places (table_in count from) map) = omega (arith, many) in
        let h'' : suc k < length (reduced_places (table_in count from) map) = omega (arith, many) in
        rw (same.rows k h', same.cols k h', same.rows (suc k) h'', same.cols (suc k) h'')
        ((places_rising (kept_in (table_in count from) map) (value_in (table_in count from) map) (length map)).rise k h'');
  }

  -- and no longer than the table
  pub result_few : n ≤ count
  result_few = omega (arith, many, few)
